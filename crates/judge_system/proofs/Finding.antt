-- The first item of a slice that passes a test, and those behind it that pass.
use Rattle.std.proofs.Common.{◌≡◌, ◌∙◌, Bool, true, false, List, [], ◌∷◌, Option, None, Some, filter, length, ap, sym}
use Rattle.std.proofs.Common.{subst, arith, refl, Bor}
use Rattle.std.specs.Prelude.{IfSome}
use Rattle.std.specs.Fn.{CalledAt}
use Rattle.std.specs.Iterator.{YieldsThen}
use Rattle.std.specs.List.{FoldsTo}
use Rattle.std.specs.Option.{MatchOption}
use Rattle.std.specs.Slice.Iter.{iter_rest, iter_steps}
use Rattle.std.specs.declared.slice.Iter.{Iter}
use denote.Param.Members.{Mut}

none_left : {A : Type 0} (test : A → Bool) (xs : List A) → length xs ≡ 0 → filter test xs ≡ []
none_left test [] none = refl
none_left test (x ∷ xs) none = absurd (omega (arith, none))

kept : {A : Type 0} (test : A → Bool) (xs rest : List A) (x : A) → xs ≡ x ∷ rest → true ≡ test x
    → filter test xs ≡ x ∷ filter test rest
kept test xs rest x is on = grind (arith, is, on)

skipped : {A : Type 0} (test : A → Bool) (xs rest : List A) (x : A) → xs ≡ x ∷ rest → false ≡ test x
    → filter test xs ≡ filter test rest
skipped test xs rest x is off = grind (arith, is, off)

-- the first of a list and what is left behind it, or nothing of an empty list
abbrev pub IsFirst : {A : Type 0} → List A → Option (Bor A) → List A → Type 0
IsFirst all r left = MatchOption r ((all ≡ []) × (left ≡ [])) (λ x. all ≡ x.now ∷ left)

module _ {A F : Type 0} (g : Mut F (Bor (Bor A) × Unit {0}) Bool) (f : F) (test : A → Bool)
    (each : (x : Bor A) (b : Bool) (q : F) → CalledAt g f x b q → (q ≡ f) × (b ≡ test x.now)) where
  pub first_found : (xs : List (Bor A)) (s u : Iter A) (r : Option (Bor A)) (j : F) → YieldsThen iter_steps s xs r u
      → FoldsTo (λ p x q. CalledAt g p x false q) f xs j → IfSome r (λ x. (h : F) × CalledAt g j x true h)
      → IsFirst (filter test (iter_rest s)) r (filter test (iter_rest u))
  first_found [] s u None j y folds last = (
    none_left test (iter_rest s) (subst (λ k. length (iter_rest k) ≡ 0) (sym y.1) y.2.0),
    none_left test (iter_rest u) (subst (λ k. length (iter_rest k) ≡ 0) (sym y.2.1) y.2.0),
  )
  first_found [] s u (Some x) j y folds last =
      let on = each x true last.0 (subst (λ k. CalledAt g k x true last.0) (sym folds) last.1) in
      kept test (iter_rest s) (iter_rest u) x.now (ap iter_rest y.1 ∙ y.2) on.1
  first_found (a ∷ xs) s u r j y folds last =
      let off = each a false folds.0 folds.1 in
      let m = y.1.0 in
      subst (λ all. IsFirst all r (filter test (iter_rest u)))
      (sym (skipped test (iter_rest s) (iter_rest m) a.now y.1.1 off.1))
      (first_found xs m u r j (y.0, y.1.2, y.2) (subst (λ k. FoldsTo (λ p x q. CalledAt g p x false q) k xs j) off.0
      folds.2) last)
