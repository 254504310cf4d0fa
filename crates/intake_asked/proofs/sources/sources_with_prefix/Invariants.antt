use Rattle.std.proofs.Common.{◌≡◌, take, map, filter}
use Rattle.std.specs.Prelude.{nat_eq}
use Rattle.std.specs.List.{starts_with}
use Rattle.intake_asked.proofs.sources.sources_with_prefix.Given as goal

abbrev pub invariant-loop-source : goal.invariant-loop-source
invariant-loop-source l = map (λ p. p.now) l.matches.items
    ≡ filter (λ s. starts_with nat_eq s l.prefix) (map (λ p. p.now) (take l.source-index l.all))
