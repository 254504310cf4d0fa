use Rattle.std.proofs.Common.{◌≡◌, ◌++◌, map, take}
use Rattle.std.specs.List.{flat_map}
use Rattle.terms.specs.Lookups.{is_in}
use Rattle.undo.specs.Scopes.{restoring_of}
use Rattle.undo.specs.Dependences.{dependents}
use Rattle.undo.proofs.dependences.dependence_pairs.Given as goal

abbrev pub invariant-loop-dependent : goal.invariant-loop-dependent
invariant-loop-dependent l =
    l.pairs.items
    ≡ flat_map (dependents (restoring_of l.scope) (is_in l.candidates)) (take l.dependent-index l.dependent-items)

abbrev pub invariant-loop-id : goal.invariant-loop-id
invariant-loop-id l =
    l.pairs.items ≡ l.initial.pairs.items ++ map (λ x. (x, l.dependent)) (take l.id-index l.id-items)
