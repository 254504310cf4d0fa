use Rattle.std.proofs.Common.{◌≡◌, ◌++◌, map, take}
use Rattle.stream.specs.declared.breaches.Lack.TheVariants.{Pre, Sup}
use Rattle.stream.proofs.requisites.lacks_of.Given as goal

abbrev pub invariant-loop-pre : goal.invariant-loop-pre
invariant-loop-pre l = l.lacks.items ≡ l.initial.lacks.items ++ map (λ z. Pre z) (take l.pre-index l.pre-items)

abbrev pub invariant-loop-sup : goal.invariant-loop-sup
invariant-loop-sup l = l.lacks.items ≡ l.initial.lacks.items ++ map (λ z. Sup z) (take l.sup-index l.sup-items)
