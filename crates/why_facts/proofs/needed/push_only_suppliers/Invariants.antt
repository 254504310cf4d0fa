use Rattle.std.proofs.Common.{◌≡◌, ◌++◌, take}
use Rattle.std.specs.List.{flat_map}
use Rattle.undo.specs.Dependences.{suppliers}
use Rattle.why_facts.specs.Needed.{sole}
use Rattle.why_facts.proofs.needed.push_only_suppliers.Given as goal

abbrev pub invariant-loop-requisite : goal.invariant-loop-requisite
invariant-loop-requisite l =
    l.found.items ≡ l.initial.found.items
    ++ flat_map (λ z. sole (suppliers l.zone z)) (take l.requisite-index l.requisites)
