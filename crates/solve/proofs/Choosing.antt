-- Lists that take an item or none at each step, beside lists that a loop goes over.
use Rattle.std.proofs.Common.{◌≡◌, inl, inr, ℕ, ◌<◌, ◌+◌, Bool, true, false, cond, List, [], ◌∷◌, ◌++◌, Some, IsTrue}
use Rattle.std.proofs.Common.{Contains, refl, sym, ap, ◌∙◌, subst, arith, slice_get}
use Rattle.std.specs.Prelude.{◌↔◌}
use Rattle.std.proofs.lemmas.Bool.{cases_lt}
use Rattle.std.proofs.lemmas.List.Elements.{Contains-append_left, Contains-append_right, Contains-append_cases}
use Rattle.solve.specs.System.{holds}
use Rattle.terms.proofs.ListMembers.{here_or}

-- an item is taken where the test holds
pub taken : {X : Type 0} (b : Bool) (x z : X) → Contains (cond b (x ∷ []) []) z → IsTrue b × (x ≡ z)
taken true x z h = elim (here_or x [] z h) [ inl same ↦ (refl, same) | inr none ↦ absurd (omega (arith, none.1)) ]
taken false x z h = absurd (omega (arith, h.1))

pub take_one : {X : Type 0} (b : Bool) (x : X) → IsTrue b → Contains (cond b (x ∷ []) []) x
take_one b x e = rw e (0, omega arith, refl)

pub same_at : {X : Type 0} (xs : List X) (n m : ℕ) (x y : X) → n ≡ m → slice_get xs n ≡ Some x → slice_get xs m ≡ Some y
    → x ≡ y
same_at xs n m x y same at_x at_y = cc (at_x, at_y, ap (slice_get xs) same)

-- the list has the flagged ids in front of a place
abbrev pub AreFlagged : {X : Type 0} → List X → List Bool → ℕ → List X → Type 0
AreFlagged {X} ids flags end kept = (x : X) → Contains kept x ↔
    ((n : ℕ) × (n < end) × (slice_get ids n ≡ Some x) × IsTrue (holds flags n))

pub flagged_next : {X : Type 0} (ids : List X) (flags : List Bool) (i : ℕ) (x : X) (b : Bool) (old new : List X)
    → slice_get ids i ≡ Some x → holds flags i ≡ b → new ≡ old ++ cond b (x ∷ []) [] → AreFlagged ids flags i old
    → AreFlagged ids flags (i + 1) new
flagged_next ids flags i x b old new at flag made so_far z = (
  λ h. elim (Contains-append_cases old (cond b (x ∷ []) []) z (subst (λ l. Contains l z) made h)) [
    | inl before ↦ let w = (so_far z).0 before in (w.0, omega (arith, w.1), w.2, w.3)
    | inr here ↦ let t = taken b x z here in (i, omega arith, at ∙ ap (λ v. Some v) t.1, flag ∙ t.0)
  ],
  λ w. subst (λ l. Contains l z) (sym made) (elim (cases_lt w.0 i) [
    | inl before ↦ Contains-append_left old (cond b (x ∷ []) []) z ((so_far z).1 (w.0, before, w.2, w.3))
    | inr past ↦
        let here : w.0 ≡ i = omega (arith, past, w.1) in
        let same : x ≡ z = sym (same_at ids w.0 i z x here w.2 at) in
        let on : IsTrue b = sym flag ∙ ap (holds flags) (sym here) ∙ w.3 in
        Contains-append_right old (cond b (x ∷ []) []) z (subst (Contains (cond b (x ∷ []) [])) same (take_one b x on))
  ]),
)
