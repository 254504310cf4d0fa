use Rattle.std.proofs.Common.{◌≡◌, ◌++◌, filter, length, map}
use Rattle.judge_system.specs.Serving.{is_between}
use Rattle.judge_system.proofs.serving.own_and_superseding_places.Given as goal

abbrev pub invariant-loop-pair : goal.invariant-loop-pair
invariant-loop-pair l =
    l.places.items ++ map (λ p. p.1) l.pair-iterator
    ≡ map (λ p. p.1) (filter (is_between l.fn.id (length l.ids.keys)) l.served.keys)
