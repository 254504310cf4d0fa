use Rattle.std.proofs.Common.{◌≡◌, map, take}
use Rattle.undo.specs.Dependences.{suppliers}
use Rattle.undo.proofs.dependences.dependences_of.Given as goal

abbrev pub invariant-loop-requisite : goal.invariant-loop-requisite
invariant-loop-requisite l =
    map (λ group. group.items) l.groups.items
    ≡ map (suppliers l.scope.zone.now) (take l.requisite-index l.requisite-items)
