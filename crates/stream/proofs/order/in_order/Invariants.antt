use Rattle.std.proofs.Common.{All, Contains, take}
use Rattle.sysmods.specs.Choices.{choice}
use Rattle.stream.specs.Ordering.{IsOrder}
use Rattle.stream.proofs.order.in_order.Given as goal

-- the ids so far have their places
abbrev pub invariant-loop-id : goal.invariant-loop-id
invariant-loop-id l = record {
  order : IsOrder (choice l.vers) l.placed.keys;
  all : All (Contains l.placed.keys) (take l.id-index l.ids);
}
