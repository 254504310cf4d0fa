use Rattle.std.proofs.Common.{◌∙◌, ◌++◌, List, map, ap, ap₂, take_all, arith}
use Rattle.stream.specs.declared.breaches.Lack.{Lack}
use Rattle.stream.specs.declared.breaches.Lack.TheVariants.{Pre, Sup}
use Rattle.stream.proofs.Lost.{lacks_are}
use Rattle.stream.proofs.requisites.lacks_of.Goals as goal

pub returns : goal.returns
returns c =
    let first = c.in_ok-lacks.lacks.items in
    lacks_are c.args.ver.now c.args.other.now first c.loop-sup.lacks.items c.in_ok-lacks.ensures
    (c.loop-sup.invariant ∙ ap₂ (λ (a b : List Lack). a ++ b)
    (c.loop-pre.invariant ∙ ap (λ l. first ++ map (λ z. Pre z) l)
    (take_all c.loop-pre.pre-index c.as_slice-pre-items.result.now (omega arith) ∙ c.as_slice-pre-items.ensures.value
    ∙ c.in_ok-pres.ensures))
    (ap (map (λ z. Sup z))
    (take_all c.loop-sup.sup-index c.as_slice-sup-items.result.now (omega arith) ∙ c.as_slice-sup-items.ensures.value
    ∙ c.in_ok-sups.ensures)))
