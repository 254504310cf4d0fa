use Rattle.std.proofs.Common.{◌≡◌, ◌++◌, map, take}
use Rattle.std.specs.List.{flat_map}
use Rattle.undo.specs.Scopes.{restoring}
use Rattle.why_facts.specs.Needed.{soles}
use Rattle.why_facts.proofs.needed.needed_pairs.Given as goal

abbrev pub invariant-loop-by : goal.invariant-loop-by
invariant-loop-by l =
    l.pairs.items ≡ flat_map (λ y. map (λ x. (x, y)) (soles (restoring l.vers l.zone l.zone) y)) (take l.by-index
    l.applied)

abbrev pub invariant-loop-id : goal.invariant-loop-id
invariant-loop-id l =
    l.pairs.items ≡ l.initial.pairs.items ++ map (λ x. (x, l.by)) (take l.id-index l.id-items)
