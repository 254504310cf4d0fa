-- What lists have after one more, and the groups of pairs of ids.
use Rattle.std.proofs.Common.{◌≡◌, ◌⊎◌, inl, inr, ℕ, ◌+◌, ◌<◌, List, [], ◌∷◌, ◌++◌, length}
use Rattle.std.proofs.Common.{refl, sym, ap, ap₂, ◌∙◌, subst, get_or, take}
use Rattle.std.specs.Prelude.{◌↔◌, Contains}
use Rattle.std.specs.declared.cmp.Ordering.{Ordering}
use Rattle.std.specs.declared.cmp.Ordering.TheVariants.{Less, Equal, Greater}
use Rattle.std.specs.Ordering.{nat_cmp, is_lt, is_eq, ordering_reverse}
use Rattle.std.specs.BTreeMap.{IsEmpty}
use Rattle.std.proofs.lemmas.Map.Lookups.{CmpEqualImpliesEq, exact_bytes}
use Rattle.std.specs.Cmp.Lexicographic.{slice_cmp, texts_ties}
use Rattle.std.proofs.lemmas.Cmp.{nat_list_cmp_total}
use Rattle.std.proofs.lemmas.List.{take_more}
use Rattle.std.proofs.lemmas.List.Elements.{Contains-append_left, Contains-append_right, Contains-append_cases}
use Rattle.terms.proofs.ListMembers.{here, here_or, none_in, in_filter, filter_in}
use Rattle.terms.proofs.TextOrder.{same_from}
use Rattle.terms.specs.Types.{Id}
use Rattle.terms.specs.Rising.{with_item, before, behind}
use Rattle.sorted.specs.MultiMap.{MultiMap, Adds, Holds}
use Rattle.sorted.proofs.Gaining.{gains_nothing, gains_one, holds_gained}
use Rattle.change.specs.Pairs.{AreGrouped}

abbrev Has : List (Id × Id) → Id → Id → Type 0
Has pairs a b = Contains {X = Id × Id} pairs (a, b)

-- one more at the end of a list
pub in_push : {X : Type 0} (xs : List X) (x y : X) → Contains (xs ++ x ∷ []) y ↔ (Contains xs y ⊎ (x ≡ y))
in_push xs x y = (
  λ h. elim (Contains-append_cases xs (x ∷ []) y h) [
    | inl old ↦ inl old
    | inr last ↦ elim (here_or x [] y last) [ inl same ↦ inr same | inr later ↦ absurd (none_in y later) ]
  ],
  λ h. elim h [
    | inl old ↦ Contains-append_left xs (x ∷ []) y old
    | inr same ↦ Contains-append_right xs (x ∷ []) y (subst (Contains (x ∷ [])) same (here x []))
  ],
)

-- the next of a list, as a loop goes over it
pub in_more : {X : Type 0} (xs : List X) (k : ℕ) (x : X) → k < length xs → x ≡ get_or xs k x
    → (y : X) → Contains (take (k + 1) xs) y ↔ (Contains (take k xs) y ⊎ (x ≡ y))
in_more xs k x below is y =
    subst (λ ys. Contains ys y ↔ (Contains (take k xs) y ⊎ (x ≡ y)))
    (sym (take_more xs k x below ∙ ap (λ v. take k xs ++ v ∷ []) (sym is))) (in_push (take k xs) x y)

-- ids with one more at its place
pub in_with_item : (xs : List Id) (z y : Id) → Contains (with_item (slice_cmp nat_cmp) (λ x. x) xs z) y
    ↔ (Contains xs y ⊎ (z ≡ y))
in_with_item xs z y = (
  λ h. elim (Contains-append_cases (low ++ z ∷ []) high y h) [
    | inl front ↦ elim ((in_push low z y).0 front) [
      | inl old ↦ inl (filter_in (λ x. is_lt (slice_cmp nat_cmp x z)) xs y old).0
      | inr same ↦ inr same
    ]
    | inr back ↦ inl (filter_in (λ x. is_lt (slice_cmp nat_cmp z x)) xs y back).0
  ],
  λ h. elim h [
    | inl old ↦ by old (slice_cmp nat_cmp y z) refl
    | inr same ↦ Contains-append_left (low ++ z ∷ []) high y ((in_push low z y).1 (inr same))
  ],
)
  where
    low : List Id
    low = before (slice_cmp nat_cmp) (λ x. x) z xs

    high : List Id
    high = behind (slice_cmp nat_cmp) (λ x. x) z xs

    by : Contains xs y → (r : Ordering) → slice_cmp nat_cmp y z ≡ r → Contains ((low ++ z ∷ []) ++ high) y
    by old Less e = Contains-append_left (low ++ z ∷ []) high y ((in_push low z y).1
        (inl (in_filter (λ x. is_lt (slice_cmp nat_cmp x z)) xs y old (ap is_lt e))))
    by old Equal e = Contains-append_left (low ++ z ∷ []) high y ((in_push low z y).1
        (inr (sym (same_from y z (texts_ties y z ∙ ap is_eq e)))))
    by old Greater e = Contains-append_right (low ++ z ∷ []) high y
        (in_filter (λ x. is_lt (slice_cmp nat_cmp z x)) xs y old
        (ap is_lt (nat_list_cmp_total.antisymm z y ∙ ap ordering_reverse e)))

abbrev order : Id → Id → Ordering
order = slice_cmp nat_cmp

exact : CmpEqualImpliesEq order
exact = exact_bytes

-- the pairs so far have the next one too, which the groups gain
module _ (pairs : List (Id × Id)) (i : ℕ) (p : Id × Id) (old new : MultiMap Id Id) (below : i < length pairs)
    (is : p ≡ get_or pairs i p) where
  more : (x z : Id) → Has (take (i + 1) pairs) x z ↔ (Has (take i pairs) x z ⊎ ((x ≡ p.0) × (z ≡ p.1)))
  more x z =
      let at = in_more pairs i p below is (x, z) in (
        λ h. elim (at.0 h) [
          | inl was ↦ inl was
          | inr last ↦ inr (sym (ap (λ q. q.0) last), sym (ap (λ q. q.1) last))
        ],
        λ h. at.1 (elim h [
          | inl was ↦ inl was
          | inr last ↦ inr (ap₂ (λ a b. (a, b)) (sym last.0) (sym last.1))
        ]),
      )

  pub grouped_next : Adds order p.0 p.1 old new → AreGrouped (take i pairs) old → AreGrouped (take (i + 1) pairs) new
  grouped_next adds are x z =
      let gains = gains_one order nat_list_cmp_total exact old new p.0 p.1 adds x z in (
        λ h. (more x z).1 (elim (gains.0 h) [ inl was ↦ inl ((are x z).0 was) | inr last ↦ inr last ]),
        λ h. gains.1 (elim ((more x z).0 h) [ inl was ↦ inl ((are x z).1 was) | inr last ↦ inr last ]),
      )

-- nothing is gathered in empty groups
empty_holds : (groups : MultiMap Id Id) → IsEmpty groups → (These : Id → Id → Type 0) → ((x z : Id) → ¬ These x z)
    → Holds order groups These
empty_holds groups empty These none =
    holds_gained order groups groups These empty (gains_nothing order groups These none)

pub grouped_none : (groups : MultiMap Id Id) → IsEmpty groups → AreGrouped [] groups
grouped_none groups empty = empty_holds groups empty (λ x z. Has [] x z) (λ x z h. none_in {X = Id × Id} (x, z) h)
