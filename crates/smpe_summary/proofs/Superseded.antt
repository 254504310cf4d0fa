-- What lists by id hold of superseders.
use Rattle.std.proofs.Common.{◌≡◌, List, Contains, sym, subst, refl}
use Rattle.std.specs.Prelude.{◌↔◌}
use Rattle.std.specs.Ordering.{nat_cmp}
use Rattle.std.specs.Cmp.Lexicographic.{slice_cmp}
use Rattle.sorted.specs.MultiMap.{MultiMap, listed, Gains, Holds, OneOf}
use Rattle.sorted.proofs.Gaining.{gains_alike}
use Rattle.terms.specs.Types.{Id}
use Rattle.terms.specs.Choice.{Choice}
use Rattle.terms.specs.Over.{Supersedes}
use Rattle.smpe_summary.specs.Superseding.{SupersedesBy, AreSuperseders}

-- lists that have gained y under each of these ids, which are those that y supersedes
pub gains_superseder : (c : Choice) (y : Id) (ids : List Id) (old new : MultiMap Id Id)
    → ((z : Id) → Contains ids z ↔ Supersedes c y z)
    → Gains (slice_cmp nat_cmp) old new (λ z v. Contains ids z × (v ≡ y))
    → Gains (slice_cmp nat_cmp) old new (SupersedesBy c y)
gains_superseder c y ids old new are gains =
    gains_alike (slice_cmp nat_cmp) old new (λ z v. Contains ids z × (v ≡ y)) (SupersedesBy c y)
    (λ z v. (λ h. ((are z).0 h.0, h.1), λ h. ((are z).1 h.0, h.1))) gains

pub superseders_are : (c : Choice) (going : List Id) (all : MultiMap Id Id)
    → Holds (slice_cmp nat_cmp) all (OneOf going (SupersedesBy c))
    → AreSuperseders c going (listed (slice_cmp nat_cmp) all)
superseders_are c going all holds x y = (
  λ h. let one = (holds x y).0 h in
      (subst (Contains going) (sym one.2.1) one.1, subst (λ z. Supersedes c z x) (sym one.2.1) one.2.0),
  λ h. (holds x y).1 (y, h.0, (h.1, refl)),
)
