use Rattle.std.proofs.Common.{take_all, subst, arith}
use Rattle.std.specs.Ordering.{nat_cmp}
use Rattle.std.specs.Cmp.Lexicographic.{slice_cmp}
use Rattle.sorted.specs.MultiMap.{Holds, OneOf}
use Rattle.sorted.proofs.Gaining.{holds_none, holds_next}
use Rattle.sysmods.specs.Choices.{choice}
use Rattle.smpe_summary.specs.Superseding.{SupersedesBy}
use Rattle.smpe_summary.proofs.superseding.superseders.Goals as goal

pub loop-id-init : goal.loop-id-init
loop-id-init c =
    holds_none (slice_cmp nat_cmp) (SupersedesBy (choice c.args.vers.now)) c.new-supers.result
    c.new-supers.ensures.empty

pub loop-id-preserved : goal.loop-id-preserved
loop-id-preserved c =
    holds_next (slice_cmp nat_cmp) (SupersedesBy (choice c.args.vers.now)) c.loop-id.supers
    c.add_superseder.new.supers c.args.ids.now c.loop-id.id-index c.id-item.result (omega arith) c.id-item.is
    c.loop-id.invariant c.in_ok-add_superseder.ensures

pub returns : goal.returns
returns c =
    subst (λ l. Holds (slice_cmp nat_cmp) c.loop-id.supers (OneOf l (SupersedesBy (choice c.args.vers.now))))
    (take_all c.loop-id.id-index c.args.ids.now (omega arith)) c.loop-id.invariant
