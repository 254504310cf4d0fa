-- Who made an element, and is not over it.
use Rattle.std.proofs.Common.{zero, suc, Bool, true, List, ◌∷◌}
use Rattle.std.proofs.Common.{IsTrue, refl, subst, arith}
use Rattle.std.specs.Prelude.{Any, ◌↔◌}
use Rattle.terms.specs.Types.{Id}
use Rattle.terms.specs.Choice.{Choice}
use Rattle.terms.specs.Over.{IsOver}

-- what is not over the SYSMODs that made an element
pub lower_first : (c : Choice) (x rmid : Id) (umids : List Id) → ¬ IsOver c x rmid
    → IsTrue true ↔ Any (λ z. ¬ IsOver c x z) (rmid ∷ umids)
lower_first c x rmid umids lacks = (λ on. (0, rmid, omega arith, refl, lacks), λ lower. refl)

pub lower_rest : (c : Choice) (x rmid : Id) (umids : List Id) (b : Bool) → IsOver c x rmid
    → IsTrue b ↔ Any (λ z. ¬ IsOver c x z) umids
    → IsTrue b ↔ Any (λ z. ¬ IsOver c x z) (rmid ∷ umids)
lower_rest c x rmid umids b over rest = (
  λ on. let any = rest.0 on in (suc any.0, any.1, omega (arith, any.2), any.3, any.4),
  by,
)
  where
    by : Any (λ z. ¬ IsOver c x z) (rmid ∷ umids) → IsTrue b
    by (zero, z, below, at, lacks) = absurd (lacks (subst (IsOver c x) at over))
    by (suc k, z, below, at, lacks) = rest.1 (k, z, omega (arith, below), at, lacks)
