use Rattle.std.proofs.Common.{◌∙◌, ◌+◌, ◌++◌, ap, drop, sym, refl, arith}
use Rattle.std.proofs.lemmas.List.{take_rest}
use Rattle.intake_list.specs.Entries.{entries_of, entry_here}
use Rattle.intake_list.proofs.Rest.{rest_more, rest_all}
use Rattle.intake_list.proofs.entry.read_entries.Goals as goal

pub loop-i-preserved : goal.loop-i-preserved
loop-i-preserved c =
    let l = c.loop-i in
    let row = c.index-rows-i.result in
    let rows = c.args.rows.now in
    let rest = drop (l.i + 1) rows in
    rest_more (entries_of l.kind.now) (entries_of c.kind_after-kind.result.now) rows l.i row l.entries.items
    (entry_here l.kind.now row rest) c.add_entry_here.new.entries.items _ (omega arith) c.index-rows-i.is
    (ap (λ k. entry_here l.kind.now row rest ++ entries_of k rest) (sym c.kind_after-kind.ensures))
    (c.in_ok-add_entry_here.ensures
    ∙ ap (λ t. l.entries.items ++ entry_here l.kind.now row t) (take_rest rows (l.i + 1)))
    l.invariant

pub returns : goal.returns
returns c =
    let l = c.loop-i in
    rest_all (entries_of l.kind.now) c.args.rows.now l.i l.entries.items _ (omega arith) refl l.invariant
