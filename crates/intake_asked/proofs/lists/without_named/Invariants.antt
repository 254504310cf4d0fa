use Rattle.std.proofs.Common.{◌≡◌, take, map, filter, not}
use Rattle.terms.specs.Lookups.{is_in}
use Rattle.intake_asked.proofs.lists.without_named.Given as goal

abbrev pub invariant-loop-id : goal.invariant-loop-id
invariant-loop-id l = map (λ p. p.now) l.left.items
    ≡ filter (λ x. not (is_in (map (λ n. n.now) l.named) x)) (map (λ p. p.now) (take l.id-index l.ids))
