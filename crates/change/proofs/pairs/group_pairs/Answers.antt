use Rattle.std.proofs.Common.{subst, arith}
use Rattle.std.proofs.lemmas.List.{take_all}
use Rattle.change.specs.Pairs.{AreGrouped}
use Rattle.change.proofs.Gathered.{grouped_next, grouped_none}
use Rattle.change.proofs.pairs.group_pairs.Goals as goal

pub loop-pair-init : goal.loop-pair-init
loop-pair-init c = grouped_none c.new-groups.result c.new-groups.ensures.empty

pub loop-pair-preserved : goal.loop-pair-preserved
loop-pair-preserved c =
    grouped_next c.args.pairs.now c.loop-pair.pair-index c.pair-item.result c.loop-pair.groups c.add.new.lists
    (omega arith) c.pair-item.is c.in_ok-add.ensures c.loop-pair.invariant

pub returns : goal.returns
returns c =
    subst (λ pairs. AreGrouped pairs c.loop-pair.groups)
    (take_all c.loop-pair.pair-index c.args.pairs.now (omega arith))
    c.loop-pair.invariant
