-- Pairs of candidates and ids, as they come in.
use Rattle.std.proofs.Common.{◌≡◌, ◌⊎◌, inl, inr, ℕ, ◌<◌, ◌+◌, List, ◌++◌, map, take, length, get_or, Contains}
use Rattle.std.proofs.Common.{sym, ap, subst}
use Rattle.std.specs.Prelude.{◌↔◌}
use Rattle.std.proofs.lemmas.List.Elements.{Contains-append_left, Contains-append_right, Contains-append_cases}
use Rattle.terms.specs.Types.{Id}
use Rattle.terms.proofs.ListMembers.{in_map, map_in}
use Rattle.judge_needs.specs.Pairs.{AddsBy, AddsPairs, ArePairs}
use Rattle.judge_needs.proofs.Growing.{front_in}

pub pairs_map : (x : Id) (more : List Id) (old new : List (Id × Id)) → new ≡ old ++ map (λ z. (x, z)) more
    → AddsPairs x more old new
pairs_map x more old new are y z = (up, down)
  where
    up : Contains new (y, z) → Contains old (y, z) ⊎ ((y ≡ x) × Contains more z)
    up h =
        elim (Contains-append_cases old (map (λ z. (x, z)) more) (y, z)
        (subst (λ l. Contains {X = Id × Id} l (y, z)) are h)) [
          | inl was ↦ inl was
          | inr added ↦
              let m = map_in (λ z. (x, z)) more (y, z) added in
              inr (
                sym (ap (λ p. p.0) m.2),
                subst (Contains more) (ap (λ p. p.1) m.2) m.1,
              )
        ]

    down : Contains old (y, z) ⊎ ((y ≡ x) × Contains more z) → Contains new (y, z)
    down (inl was) = subst (λ l. Contains {X = Id × Id} l (y, z)) (sym are)
        (Contains-append_left old (map (λ z. (x, z)) more) (y, z) was)
    down (inr added) = subst (λ l. Contains {X = Id × Id} l (y, z)) (sym are)
        (Contains-append_right old (map (λ z. (x, z)) more) (y, z)
        (subst (λ w. Contains {X = Id × Id} (map (λ z. (x, z)) more) (w, z)) (sym added.0)
        (in_map (λ z. (x, z)) more z added.1)))

-- the same ids, said in another way
pub pairs_alike : (x : Id) (Some Same : Id → Type 0) (old new : List (Id × Id)) → ((z : Id) → Some z ↔ Same z)
    → AddsBy x Some old new → AddsBy x Same old new
pairs_alike x Some Same old new same adds y z = (
  λ h. elim ((adds y z).0 h) [ inl was ↦ inl was | inr added ↦ inr (added.0, (same z).0 added.1) ],
  λ h. (adds y z).1 (elim h [ inl was ↦ inl was | inr added ↦ inr (added.0, (same z).1 added.1) ]),
)

-- a list with another one behind it that has the same ids
pub same_behind : (front old new : List Id) → ((z : Id) → Contains old z ↔ Contains new z) → (z : Id)
    → Contains (front ++ old) z ↔ Contains (front ++ new) z
same_behind front old new same z = (
  λ h. elim (Contains-append_cases front old z h) [
    | inl before ↦ Contains-append_left front new z before
    | inr behind ↦ Contains-append_right front new z ((same z).0 behind)
  ],
  λ h. elim (Contains-append_cases front new z h) [
    | inl before ↦ Contains-append_left front old z before
    | inr behind ↦ Contains-append_right front old z ((same z).1 behind)
  ],
)

module _ (Of : Id → Id → Type 0) where
  -- the next candidate
  pub pairs_next : (xs : List Id) (k : ℕ) (x : Id) (old new : List (Id × Id)) → k < length xs → x ≡ get_or xs k x
      → AddsBy x (Of x) old new → ArePairs Of (take k xs) old → ArePairs Of (take (k + 1) xs) new
  pairs_next xs k x old new below at adds was y z = (
    λ h. elim ((adds y z).0 h) [
      | inl before ↦ let both = (was y z).0 before in ((front_in xs k x y below at).1 (inl both.0), both.1)
      | inr added ↦ ((front_in xs k x y below at).1 (inr added.0), subst (λ w. Of w z) (sym added.0) added.1)
    ],
    λ h. (adds y z).1 (elim ((front_in xs k x y below at).0 h.0) [
      | inl before ↦ inl ((was y z).1 (before, h.1))
      | inr same ↦ inr (same, subst (λ w. Of w z) same h.1)
    ]),
  )
