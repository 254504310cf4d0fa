-- Places of ids that rise.
use Rattle.std.proofs.Common.{◌≡◌, ◌≢◌, inl, inr, ℕ, ◌<◌, true, false, IsTrue, List, length, Some, sym, ap, ◌∙◌, subst}
use Rattle.std.proofs.Common.{true≢false, slice_get}
use Rattle.std.specs.Ordering.{is_lt, nat_cmp, ordering_reverse}
use Rattle.std.specs.Cmp.Lexicographic.{slice_cmp}
use Rattle.std.proofs.lemmas.Bool.{cases_order}
use Rattle.std.proofs.lemmas.Cmp.{nat_list_cmp_total, tied_itself}
use Rattle.std.proofs.lemmas.Map.Lookups.{exact_bytes}
use Rattle.std.proofs.lemmas.Option.{slice_get_within, slice_get-get_or, get_or_from_slice_get}
use Rattle.terms.proofs.Orderings.{Less_from_is_lt}
use Rattle.terms.specs.Rising.{StandsAt}
use Rattle.terms.specs.Types.{Id}
use Rattle.terms.specs.Lookups.{IsRising, is_before}

-- ids in order are apart
pub before_apart : (x y : Id) → IsTrue (is_before x y) → x ≢ y
before_apart x y below same = true≢false (sym (subst (λ z. is_before x z ≡ true) (sym same) below) ∙ not_below x)
  where
    not_below : (x : Id) → is_before x x ≡ false
    not_below x = ap is_lt (tied_itself nat_list_cmp_total x)

-- and one stands before the other, not both
pub before_once : (x y : Id) → IsTrue (is_before x y) → is_before y x ≡ false
before_once x y below = ap is_lt (nat_list_cmp_total.antisymm y x
    ∙ ap ordering_reverse (Less_from_is_lt (slice_cmp nat_cmp x y) below))

-- ids at two places are two
places_apart : (ids : List Id) → IsRising ids → (n m : ℕ) (x y : Id) → slice_get ids n ≡ Some x
    → slice_get ids m ≡ Some y → n < m → x ≢ y
places_apart ids rising n m x y at_x at_y below =
    before_apart x y (rw (← get_or_from_slice_get ids n x x at_x, ← get_or_from_slice_get ids m y x at_y)
    (rising n m x below (slice_get_within ids m y at_y)))

pub two_places : (ids : List Id) → IsRising ids → (n m : ℕ) (x y : Id) → slice_get ids n ≡ Some x
    → slice_get ids m ≡ Some y → n ≢ m → x ≢ y
two_places ids rising n m x y at_x at_y other = elim (cases_order n m) [
  | inl same ↦ absurd (other same)
  | inr apart ↦ elim apart [
    | inl less ↦ places_apart ids rising n m x y at_x at_y less
    | inr more ↦ λ same. places_apart ids rising m n y x at_y at_x more (sym same)
  ]
]

-- what a search finds
pub stands_at : (ids : List Id) (f : Id) (i : ℕ) → i < length ids → (x : Id)
    → StandsAt (slice_cmp nat_cmp) (λ y. y) f ids i x
    → (slice_get ids i ≡ Some x) × (x ≡ f)
stands_at ids f i below x s = (
  slice_get-get_or ids i x below ∙ ap (λ v. Some v) (s.at x),
  exact_bytes x f s.tie,
)
