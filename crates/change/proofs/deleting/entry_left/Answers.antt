use Rattle.std.proofs.Common.{◌∙◌, sym, ap}
use Rattle.std.specs.Prelude.{unwrap_or}
use Rattle.std.proofs.lemmas.Result.{IfOk-weaker}
use Rattle.sysmods.specs.Choices.{choice}
use Rattle.change.specs.Entries.{bare_entry}
use Rattle.change.proofs.Leaving.{left_some, left_none}
use Rattle.change.proofs.deleting.entry_left.Goals as goal

pub returns-in-Some-clause-entry : goal.returns-in-Some-clause-entry
returns-in-Some-clause-entry c =
    let l = c.args.left.now in
    IfOk-weaker c.entry_less.result _ _
    (λ e is. is ∙ left_some l.vers.now.global.now (choice l.vers.now) l.dels.now l.zone.now c.entry.ensures.form
    c.args.id
    c.in-Some.entry.now (sym c.in-Some.ensures.found))
    c.entry_less.ensures

pub returns-in-None-clause-entry : goal.returns-in-None-clause-entry
returns-in-None-clause-entry c =
    let l = c.args.left.now in
    rw (c.new.ensures, c.new-in-None.ensures)
    (sym (ap (λ o. unwrap_or o (bare_entry c.args.id)) (left_none l.vers.now.global.now (choice l.vers.now) l.dels.now
    l.zone.now c.entry.ensures.form c.args.id (sym c.in-None.ensures.found))))
