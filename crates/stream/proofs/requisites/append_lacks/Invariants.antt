use Rattle.std.proofs.Common.{◌≡◌, ◌++◌, map, take}
use Rattle.stream.specs.Lost.{a_lost_requisite}
use Rattle.stream.proofs.requisites.append_lacks.Given as goal

abbrev pub invariant-loop-lack : goal.invariant-loop-lack
invariant-loop-lack l = l.found.items
    ≡ l.initial.found.items ++ map (λ k. a_lost_requisite l.superseding l.superseded k) (take l.lack-index l.lack-items)
