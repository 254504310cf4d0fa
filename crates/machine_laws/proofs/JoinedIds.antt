-- Rising ids with more of them, which need not rise.
use Rattle.std.proofs.Common.{◌⊎◌, inl, inr, List, [], ◌∷◌}
use Rattle.std.proofs.Common.{Contains, subst}
use Rattle.std.specs.Prelude.{◌↔◌}
use Rattle.std.specs.Ordering.{nat_cmp}
use Rattle.std.specs.Cmp.Lexicographic.{slice_cmp}
use Rattle.std.proofs.lemmas.Cmp.{nat_list_cmp_total}
use Rattle.terms.proofs.ListMembers.{here, there, here_or, none_in}
use Rattle.terms.specs.Types.{Id}
use Rattle.terms.specs.Rising.{with_item}
use Rattle.terms.specs.Lookups.{IsRising}
use Rattle.terms.proofs.Placing.{Rises_with_item}
use Rattle.change.proofs.Gathered.{in_with_item}

pub joined : List Id → List Id → List Id
joined ids [] = ids
joined ids (y ∷ ys) = with_item (slice_cmp nat_cmp) (λ z. z) (joined ids ys) y

pub joined_rises : (ids more : List Id) → IsRising ids → IsRising (joined ids more)
unfolding joined
joined_rises ids [] rises = rises
joined_rises ids (y ∷ ys) rises =
    Rises_with_item nat_list_cmp_total (λ z. z) (joined ids ys) y (joined_rises ids ys rises)

pub in_joined : (ids more : List Id) (z : Id) → Contains (joined ids more) z ↔ (Contains ids z ⊎ Contains more z)
unfolding joined
in_joined ids [] z = (λ is. inl is, λ is. elim is [ inl old ↦ old | inr new ↦ absurd (none_in z new) ])
in_joined ids (y ∷ ys) z = (
  λ is. elim ((in_with_item (joined ids ys) y z).0 is) [
    | inl was ↦ elim ((in_joined ids ys z).0 was) [ inl old ↦ inl old | inr later ↦ inr (there y ys z later) ]
    | inr same ↦ inr (subst (Contains (y ∷ ys)) same (here y ys))
  ],
  λ is. (in_with_item (joined ids ys) y z).1 (elim is [
    | inl old ↦ inl ((in_joined ids ys z).1 (inl old))
    | inr new ↦ elim (here_or y ys z new) [
      | inl same ↦ inr same
      | inr later ↦ inl ((in_joined ids ys z).1 (inr later))
    ]
  ]),
)
