use Rattle.std.proofs.Common.{subst, take_all, arith}
use Rattle.sorted.specs.MultiMap.{AddsToAll}
use Rattle.sorted.proofs.Listing.{adds_to_none, adds_to_next}
use Rattle.sorted.proofs.multi_map.add_to_all.Goals as goal

pub loop-key-init : goal.loop-key-init
loop-key-init g c = adds_to_none g.K.Ord.cmp c.args.value c.args.lists.now

pub loop-key-preserved : goal.loop-key-preserved
loop-key-preserved g c =
    adds_to_next g.K.Ord.cmp c.args.keys.now c.loop-key.key-index c.key-item.result c.args.value c.args.lists.now
    c.loop-key.lists c.add.new.lists (omega arith) c.key-item.is c.loop-key.invariant c.in_ok-add.ensures

pub returns : goal.returns
returns g c =
    subst (λ l. AddsToAll g.K.Ord.cmp l c.args.value c.args.lists.now c.loop-key.lists)
    (take_all c.loop-key.key-index c.args.keys.now (omega arith)) c.loop-key.invariant
