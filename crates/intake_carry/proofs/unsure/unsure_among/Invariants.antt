use Rattle.std.proofs.Common.{map, take}
use Rattle.std.specs.Prelude.{All}
use Rattle.intake_carry.specs.Unsure.{IsNamed}
use Rattle.intake_carry.proofs.unsure.unsure_among.Given as goal

abbrev pub invariant-loop-item : goal.invariant-loop-item
invariant-loop-item l = All (IsNamed (map (λ s. s.now) l.doubts.left.now) l.unsure.items) (take l.item-index l.items)
