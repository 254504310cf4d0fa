use Rattle.std.proofs.Common.{◌⊎◌, inr, Contains, sym, ap}
use Rattle.terms.specs.Types.{Sysmod}
use Rattle.terms.proofs.Each.{All_from_each}
use Rattle.smpe_global.specs.LastEdits.{Replaces}
use Rattle.smpe_global.proofs.LastEdits.{is_last_inserted}
use Rattle.smpe_global.proofs.last_edits.is_last.Goals as goal

pub returns-in_ok-insert-in-ReplaceSources : goal.returns-in_ok-insert-in-ReplaceSources
returns-in_ok-insert-in-ReplaceSources c =
    let x = c.sysmod.inside.id in
    let here : Replaces x c.args.edit.now = rw c.in-ReplaceSources.is
    (sym (ap (λ (s : Sysmod). s.id) c.sysmod.view_is)) in
    let inserted = c.in_ok-insert-in-ReplaceSources in
    is_last_inserted c.args.edit.now x c.args.later.now.keys c.insert.new.self.keys inserted.field-0 here
    inserted.ensures.added inserted.ensures.keys inserted.ensures.unchanged

pub returns-in_default : goal.returns-in_default
returns-in_default c =
    All_from_each (λ y. Replaces y c.args.edit.now ⊎ Contains c.args.later.now.keys y) c.args.later.now.keys
    (λ y there. inr there)
