-- What follows from the pairs that are known.
use Rattle.std.proofs.Common.{◌≡◌, inl, inr, Bool, true, false, List, [], ◌∷◌, ◌++◌, sym, subst, Contains}
use Rattle.std.specs.Prelude.{◌||◌, ◌&&◌, if◌then◌else◌}
use Rattle.std.specs.Str.{bytes_eq}
use Rattle.std.proofs.lemmas.Bool.{and_parts, or_cases}
use Rattle.std.proofs.lemmas.List.Folds.{Any-from_list_any}
use Rattle.std.proofs.lemmas.List.Elements.{All-push, Contains-append_left, Contains-append_right}
use Rattle.terms.specs.Types.{Id}
use Rattle.terms.specs.Lookups.{at_most_one}
use Rattle.terms.specs.Choice.{Choice, fmid_of, pre_of, sup_of}
use Rattle.terms.specs.Over.{IsOver, names}
use Rattle.terms.proofs.TextOrder.{same_from}
use Rattle.sysmods.specs.Overs.{AreOver, is_known_over, is_any_known_over}

module _ (c : Choice) (pairs : List (Id × Id)) (are : AreOver c pairs) where
  pub known_over : (x z : Id) → is_known_over pairs x z ≡ true → IsOver c x z
  known_over x z on =
      let a = Any-from_list_any (λ (p : Id × Id). bytes_eq x p.0 && bytes_eq z p.1) pairs on in
      let same = and_parts (bytes_eq x a.1.0) (bytes_eq z a.1.1) a.4 in
      let found : IsOver c a.1.0 a.1.1 = subst (λ (p : Id × Id). IsOver c p.0 p.1) a.3 (are a.0 a.1 a.2) in
      subst (λ v. IsOver c v z) (sym (same_from x a.1.0 same.0))
      (subst (IsOver c a.1.0) (sym (same_from z a.1.1 same.1)) found)

  -- it names one that is over z
  follows : (x z : Id) (ys : List Id) → ((y : Id) → Contains ys y → Contains (names c x) y)
      → is_any_known_over pairs ys z ≡ true → IsOver c x z
  follows x z ys named on =
      let a = Any-from_list_any (λ y. is_known_over pairs y z) ys on in
      let more = known_over a.1 z a.4 in
      (a.1 ∷ more.0, (named a.1 (a.0, a.2, a.3), more.1))

  pub follows_over : (x z : Id) →
      (is_any_known_over pairs (pre_of c x) z || is_any_known_over pairs (sup_of c x) z) ≡ true → IsOver c x z
  follows_over x z on =
      elim (or_cases (is_any_known_over pairs (pre_of c x) z) (is_any_known_over pairs (sup_of c x) z) on) [
        | inl pre ↦ follows x z (pre_of c x) (λ y h.
            Contains-append_left (pre_of c x ++ sup_of c x) (at_most_one (fmid_of c x)) y
            (Contains-append_left (pre_of c x) (sup_of c x) y h)) pre
        | inr sup ↦ follows x z (sup_of c x) (λ y h.
            Contains-append_left (pre_of c x ++ sup_of c x) (at_most_one (fmid_of c x)) y
            (Contains-append_right (pre_of c x) (sup_of c x) y h)) sup
      ]

  -- with one more
  pub more_over : (x z : Id) (new : List (Id × Id)) → IsOver c x z
      → new ≡ (if is_known_over pairs x z then pairs else pairs ++ (x, z) ∷ []) → AreOver c new
  more_over x z new over made = by (is_known_over pairs x z) made
    where
      by : (b : Bool) → new ≡ (if b then pairs else pairs ++ (x, z) ∷ []) → AreOver c new
      by true e = subst (AreOver c) (sym e) are
      by false e = subst (AreOver c) (sym e) (All-push (λ (p : Id × Id). IsOver c p.0 p.1) pairs (x, z) are over)
