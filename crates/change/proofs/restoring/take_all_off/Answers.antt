use Rattle.std.proofs.Common.{◌∙◌, IsTrue, ap, arith, sym, subst, take_all}
use Rattle.std.specs.Prelude.{fold}
use Rattle.terms.specs.Lookups.{is_in, waives_applied}
use Rattle.change.specs.Restoring.{take_off}
use Rattle.change.proofs.LessEdits.{one_more}
use Rattle.change.proofs.restoring.take_all_off.Goals as goal

pub take_off-requires : goal.take_off-requires
take_off-requires c =
    subst (λ e. IsTrue (waives_applied e)) (sym c.entry-item.is)
    (c.requires c.loop-entry.entry-index c.entry-item.result c.loop-entry-test.true)

pub loop-entry-preserved : goal.loop-entry-preserved
loop-entry-preserved c =
    c.in_ok-take_off.ensures
    ∙ ap (λ d. take_off (is_in c.args.kept.now) d c.entry-item.result) c.loop-entry.invariant
    ∙ one_more (is_in c.args.kept.now) c.args.zone_edits.now c.args.entries.now c.loop-entry.entry-index
    c.entry-item.result (omega arith) c.entry-item.is

pub returns : goal.returns
returns c =
    c.loop-entry.invariant ∙ ap (fold (take_off (is_in c.args.kept.now)) c.args.zone_edits.now)
    (take_all c.loop-entry.entry-index c.args.entries.now (omega arith))
