-- The rows of causers so far, and that no failure is without one.
use Rattle.std.proofs.Common.{◌≡◌, ◌<◌, ◌≤◌, ◌+◌, ℕ, zero, suc, Bool, true, false, cond, List, [], ◌∷◌, ◌++◌, length}
use Rattle.std.proofs.Common.{get_or, replicate, refl, sym, ◌∙◌, subst, ap, arith, inl, inr}
use Rattle.std.specs.Prelude.{Vec, IsTrue, ◌↔◌, ◌&&◌, ◌||◌, nat_lt}
use Rattle.std.specs.declared.alloc.Global.{Global}
use Rattle.std.specs.List.{All, Any, AllPairs, Contains, list_any}
use Rattle.std.proofs.lemmas.List.{append-nil}
use Rattle.std.proofs.lemmas.List.Elements.{Contains-push_cases, Contains-push, Contains-append_left, Contains-get_or}
use Rattle.std.proofs.lemmas.List.Elements.{All-contains}
use Rattle.std.proofs.lemmas.List.Quantifiers.{all_pairs_push}
use Rattle.std.proofs.lemmas.List.Folds.{Any-from_list_any}
use Rattle.std.proofs.lemmas.Bool.{cases_eq, cases_Bool, and_parts, and_from, ltb-true, lt-ltb}
use Rattle.solve.proofs.PassingElements.{clash}
use Rattle.terms.proofs.Searches.{All_from_no_list_any}
use Rattle.solve.proofs.Times.{times_from_Contains, Contains_from_times, Contains_from_is_in, is_in_from_Contains}
use Rattle.solve.specs.System.{System, Need, IsNeed, IsSystem, holds, IsSelfSupporting, IsGreatest}
use Rattle.solve.specs.Causes.{HasFailed, LeadsTo, LeadsOn, IsRoot, IsCauser}
use Rattle.solve.specs.Rows.{row_at, times}
use Rattle.solve.specs.Marks.{is_in}

-- each row has the causers below y
pub record AreCausersBelow (p : System) (kept : List Bool) (rows : List (Vec ℕ Global)) (y : ℕ) : Type 0 where
  pub size : length rows ≡ p.size
  pub exact : (x z : ℕ) → Contains (row_at rows x) z ↔ ((z < y) × IsCauser p kept x z)
  pub rising : (x : ℕ) → AllPairs (λ a b. a < b) (row_at rows x)

-- y is no root
pub causers_skip : (p : System) (kept : List Bool) (rows : List (Vec ℕ Global)) (y : ℕ) → (IsRoot p kept y → ⊥)
    → AreCausersBelow p kept rows y → AreCausersBelow p kept rows (y + 1)
causers_skip p kept rows y no_root so_far = record {
  size = so_far.size;
  exact = λ x z. (
    λ c. (omega (arith, ((so_far.exact x z).0 c).0), ((so_far.exact x z).0 c).1),
    λ c. elim (cases_eq z y) [
      | inl same ↦ absurd (no_root (subst (IsRoot p kept) same c.1.0))
      | inr other ↦ (so_far.exact x z).1 (omega arith, c.1)
    ],
  );
  rising = so_far.rising;
}

row_below : (p : System) (kept : List Bool) (rows : List (Vec ℕ Global)) (y x : ℕ) → AreCausersBelow p kept rows y
    → (k d : ℕ) → k < length (row_at rows x) → get_or (row_at rows x) k d < y
row_below p kept rows y x so_far k d below = ((so_far.exact x _).0 (Contains-get_or (row_at rows x) k d below)).0

-- the rows with the root added where the list has the candidate
appended : (old new : List (Vec ℕ Global)) (list : List ℕ) (y : ℕ) → ((x : ℕ) → times x list ≤ 1)
    → ((x : ℕ) → row_at new x ≡ row_at old x ++ replicate (times x list) y)
    → (x : ℕ) (b : Bool) → is_in list x ≡ b → row_at new x ≡ cond b (row_at old x ++ y ∷ []) (row_at old x)
appended old new list y once added x true here =
    let one : times x list ≡ 1 = omega (arith, once x, times_from_Contains x list (Contains_from_is_in list x here)) in
    added x ∙ ap (λ n. row_at old x ++ replicate n y) one
appended old new list y once added x false away =
    added x ∙ ap (λ n. row_at old x ++ replicate n y) (none (times x list) refl) ∙ append-nil (row_at old x)
  where
    none : (n : ℕ) → times x list ≡ n → n ≡ 0
    none zero is = refl
    none (suc n) is = absurd (cc (away, is_in_from_Contains list x (Contains_from_times x list (omega (arith, is)))))

-- y is a root, and the list has what reaches it
pub causers_add : (p : System) (kept : List Bool) (old new : List (Vec ℕ Global)) (list : List ℕ) (y : ℕ)
    → IsRoot p kept y → length new ≡ length old
    → ((x : ℕ) → times x list ≤ 1)
    → ((x : ℕ) → Contains list x ↔ LeadsOn p kept x y)
    → ((x : ℕ) → row_at new x ≡ row_at old x ++ replicate (times x list) y)
    → AreCausersBelow p kept old y → AreCausersBelow p kept new (y + 1)
causers_add p kept old new list y root size once reached added so_far =
    let row_is = appended old new list y once added in
    record {
      size = size ∙ so_far.size;
      exact = λ x z. elim (cases_Bool (is_in list x)) [
        | inl here ↦ (
          λ c. elim (Contains-push_cases (row_at old x) y z (subst (λ row. Contains row z) (row_is x true here) c)) [
            | inl before ↦ (omega (arith, ((so_far.exact x z).0 before).0), ((so_far.exact x z).0 before).1)
            | inr same ↦ (
              omega (arith, same),
              subst (IsCauser p kept x) same
                  (root, (reached x).0 (Contains_from_is_in list x here)),
            )
          ],
          λ c. subst (λ row. Contains row z) (sym (row_is x true here)) (elim (cases_eq z y) [
            | inl same ↦ subst (λ n. Contains (row_at old x ++ y ∷ []) n) (sym same) (Contains-push (row_at old x) y)
            | inr other ↦ Contains-append_left (row_at old x) (y ∷ []) z ((so_far.exact x z).1 (omega arith, c.1))
          ]),
        )
        | inr away ↦ (
          λ c. let before = (so_far.exact x z).0 (subst (λ row. Contains row z) (row_is x false away) c)
              in (omega (arith, before.0), before.1),
          λ c. subst (λ row. Contains row z) (sym (row_is x false away)) (elim (cases_eq z y) [
            | inl same ↦ absurd (cc (
              away,
              is_in_from_Contains list x
                  ((reached x).1 (subst (LeadsOn p kept x) same c.1.1)),
            ))
            | inr other ↦ (so_far.exact x z).1 (omega arith, c.1)
          ]),
        )
      ];
      rising = λ x. elim (cases_Bool (is_in list x)) [
        | inl here ↦ subst (AllPairs (λ a b. a < b)) (sym (row_is x true here))
            (all_pairs_push (λ a b. a < b) (row_at old x) y (so_far.rising x) (row_below p kept old y x so_far))
        | inr away ↦ subst (AllPairs (λ a b. a < b)) (sym (row_is x false away)) (so_far.rising x)
      ];
    }

pub causers_all : (p : System) (kept : List Bool) (rows : List (Vec ℕ Global)) → AreCausersBelow p kept rows p.size
    → (x y : ℕ) → Contains (row_at rows x) y ↔ IsCauser p kept x y
causers_all p kept rows so_far x y = (λ c. ((so_far.exact x y).0 c).1, λ c. (so_far.exact x y).1 (c.0.0.0, c))

abbrev is_nil : List ℕ → Bool
is_nil [] = true
is_nil (x ∷ xs) = false

-- kept, or a candidate with no causer
abbrev uncaused : System → List Bool → List (Vec ℕ Global) → ℕ → Bool
uncaused p kept rows x = holds kept x || (nat_lt x p.size && is_nil (row_at rows x))

nil_has_none : (row : List ℕ) (y : ℕ) → is_nil row ≡ true → Contains row y → ⊥
nil_has_none [] y nil c = omega (arith, c.1)
nil_has_none (x ∷ xs) y nil c = cc

from_kept : (p : System) (kept : List Bool) (rows : List (Vec ℕ Global)) (x : ℕ) → IsTrue (holds kept x)
    → IsTrue (uncaused p kept rows x)
from_kept p kept rows x h = ap (λ b. b || (nat_lt x p.size && is_nil (row_at rows x))) h

from_nil : (p : System) (kept : List Bool) (rows : List (Vec ℕ Global)) (x : ℕ) → x < p.size
    → is_nil (row_at rows x) ≡ true → IsTrue (uncaused p kept rows x)
from_nil p kept rows x below nil =
    let both = and_from (nat_lt x p.size) (is_nil (row_at rows x)) (lt-ltb x p.size below) nil in
    elim (cases_Bool (holds kept x)) [
      | inl is_kept ↦ from_kept p kept rows x is_kept
      | inr out ↦ ap (λ b. b || (nat_lt x p.size && is_nil (row_at rows x))) out ∙ both
    ]

-- a candidate that is not kept and has no causer is eligible
uncaused_eligible : (p : System) (kept : List Bool) (rows : List (Vec ℕ Global)) → IsSelfSupporting p (holds kept)
    → ((x y : ℕ) → Contains (row_at rows x) y ↔ IsCauser p kept x y) → (x : ℕ) → IsTrue (uncaused p kept rows x)
    → IsTrue (holds p.eligible x)
uncaused_eligible p kept rows supported exact x member =
    elim (cases_Bool (holds kept x)) [
      | inl is_kept ↦ supported.eligible x is_kept
      | inr out ↦ elim (cases_Bool (holds p.eligible x)) [
        | inl good ↦ good
        | inr bad ↦ absurd (
            let both = and_parts (nat_lt x p.size) (is_nil (row_at rows x))
            (subst (λ b. (b || (nat_lt x p.size && is_nil (row_at rows x))) ≡ true) out member) in
            nil_has_none (row_at rows x) x both.1 ((exact x x).1
            (((ltb-true x p.size both.0, out), inl bad), ([], refl))))
      ]
    ]

-- the first of some that serve is an uncaused one, where the needing candidate is
first_uncaused : (p : System) (kept : List Bool) (rows : List (Vec ℕ Global)) → IsSystem p
    → ((x y : ℕ) → Contains (row_at rows x) y ↔ IsCauser p kept x y)
    → (d : Need) → Contains p.needs d → HasFailed p kept d.of → is_nil (row_at rows d.of) ≡ true
    → All (λ z. holds kept z ≡ false) d.any
    → (ys : List ℕ) → d.any ≡ ys → Any (λ y. IsTrue (uncaused p kept rows y)) ys
first_uncaused p kept rows valid exact d in_needs failed nil unmet [] bare =
    absurd (nil_has_none (row_at rows d.of) d.of nil ((exact d.of d.of).1
    ((failed, inr (in_needs.0, d, in_needs.1, in_needs.2, (refl, bare))), ([], refl))))
first_uncaused p kept rows valid exact d in_needs failed nil unmet (w ∷ ws) is =
    let among : Contains d.any w = subst (λ ys. Contains ys w) (sym is) (0, omega arith, refl) in
    let below : w < p.size = All-contains (λ y. y < p.size) d.any w
    (All-contains (IsNeed p.size) p.needs d valid.needs in_needs).any among in
    let lead : LeadsTo p kept d.of w = (failed, (in_needs.0, d, in_needs.1, in_needs.2, (refl, unmet, among))) in
    (0, w, omega arith, refl, no_row (row_at rows w) refl below lead)
  where
    no_row : (row : List ℕ) → row_at rows w ≡ row → w < p.size → LeadsTo p kept d.of w → IsTrue (uncaused p kept rows w)
    no_row [] empty below lead = from_nil p kept rows w below (ap is_nil empty)
    no_row (c ∷ cs) full below lead = absurd (
        let cause = (exact w c).0 (subst (λ r. Contains r c) (sym full) (0, omega arith, refl)) in
        nil_has_none (row_at rows d.of) c nil ((exact d.of c).1 (cause.0, (w ∷ cause.1.0, (lead, cause.1.1)))))

uncaused_served : (p : System) (kept : List Bool) (rows : List (Vec ℕ Global)) → IsSystem p
    → IsSelfSupporting p (holds kept) → ((x y : ℕ) → Contains (row_at rows x) y ↔ IsCauser p kept x y)
    → (d : Need) → Contains p.needs d → IsTrue (uncaused p kept rows d.of)
    → Any (λ y. IsTrue (uncaused p kept rows y)) d.any
uncaused_served p kept rows valid supported exact d in_needs member =
    elim (cases_Bool (list_any (holds kept) d.any)) [
      | inl some ↦ let a = Any-from_list_any (holds kept) d.any some
          in (a.0, a.1, a.2, a.3, from_kept p kept rows a.1 a.4)
      | inr none ↦
          let unmet = All_from_no_list_any (holds kept) d.any none in
          elim (cases_Bool (holds kept d.of)) [
            | inl is_kept ↦ absurd (clash (holds kept) d.any
                (All-contains (λ e. IsTrue (holds kept e.of) → Any (λ y. IsTrue (holds kept y)) e.any) p.needs d
                supported.served in_needs is_kept) unmet)
            | inr out ↦
                let both = and_parts (nat_lt d.of p.size) (is_nil (row_at rows d.of))
                (subst (λ b. (b || (nat_lt d.of p.size && is_nil (row_at rows d.of))) ≡ true) out member) in
                first_uncaused p kept rows valid exact d in_needs (ltb-true d.of p.size both.0, out) both.1 unmet
                d.any refl
          ]
    ]

uncaused_supported : (p : System) (kept : List Bool) (rows : List (Vec ℕ Global)) → IsSystem p
    → IsSelfSupporting p (holds kept) → ((x y : ℕ) → Contains (row_at rows x) y ↔ IsCauser p kept x y)
    → IsSelfSupporting p (uncaused p kept rows)
uncaused_supported p kept rows valid supported exact = record {
  eligible = uncaused_eligible p kept rows supported exact;
  served = λ k e below member. uncaused_served p kept rows valid supported exact (get_or p.needs k e)
      (Contains-get_or p.needs k e below) member;
}

-- where the kept set is the greatest, each failure has a cause
pub has_causer : (p : System) (kept : List Bool) (rows : List (Vec ℕ Global)) → IsSystem p
    → ((x y : ℕ) → Contains (row_at rows x) y ↔ IsCauser p kept x y) → IsGreatest p kept → (x : ℕ) → HasFailed p kept x
    → (y : ℕ) × IsCauser p kept x y
has_causer p kept rows valid exact greatest x failed = row_has (row_at rows x) refl
  where
    row_has : (row : List ℕ) → row_at rows x ≡ row → (y : ℕ) × IsCauser p kept x y
    row_has (y ∷ ys) full = (y, (exact x y).0 (subst (λ r. Contains r y) (sym full) (0, omega arith, refl)))
    row_has [] empty = absurd (cc (
      failed.1,
      greatest.greatest (uncaused p kept rows)
          (uncaused_supported p kept rows valid greatest.self_supporting exact) x
          (from_nil p kept rows x failed.0 (ap is_nil empty)),
    ))
