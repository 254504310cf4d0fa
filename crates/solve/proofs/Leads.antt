-- Rows of what leads to each candidate, over the needs seen so far.
use Rattle.std.proofs.Common.{◌≡◌, ◌<◌, ℕ, Bool, false, List, [], ◌∷◌, ◌++◌, length, get_or}
use Rattle.std.proofs.Common.{replicate, sym, subst, arith, inl, inr}
use Rattle.std.specs.Prelude.{Vec, ◌↔◌}
use Rattle.std.specs.declared.alloc.Global.{Global}
use Rattle.std.specs.List.{All, Any, Contains}
use Rattle.std.proofs.lemmas.List.Elements.{Contains-append_left, Contains-append_right, Contains-append_cases}
use Rattle.std.proofs.lemmas.List.Elements.{Contains-get_or}
use Rattle.std.proofs.lemmas.List.Quantifiers.{Any-push}
use Rattle.terms.proofs.Each.{Any_push_cases, Any_append_left}
use Rattle.solve.specs.System.{System, Need, holds}
use Rattle.solve.specs.Causes.{HasFailed, LeadsBy}
use Rattle.solve.specs.Rows.{row_at, times}
use Rattle.solve.specs.Marks.{AreLeads}
use Rattle.solve.proofs.Times.{Contains_replicate, replicate_Contains, Contains_from_times, times_from_Contains}

-- the rows have what leads by the seen needs
abbrev pub AreLeadsBy : System → List Bool → List Need → List (Vec ℕ Global) → Type 0
AreLeadsBy p kept seen rows = (x y : ℕ) → Contains (row_at rows y) x ↔
    (HasFailed p kept x × Any (LeadsBy kept x y) seen)

pub leads_none : (p : System) (kept : List Bool) (rows : List (Vec ℕ Global)) → ((y : ℕ) → row_at rows y ≡ [])
    → AreLeadsBy p kept [] rows
leads_none p kept rows empty x y = (
  λ c. absurd (omega (arith, (subst (λ row. Contains row x) (empty y) c).1)),
  λ led. absurd (omega (arith, led.1.2)),
)

-- one more need, through which nothing leads
pub leads_skip : (p : System) (kept : List Bool) (seen : List Need) (d : Need)
    (rows : List (Vec ℕ Global))
    → (HasFailed p kept d.of → All (λ z. holds kept z ≡ false) d.any → ⊥) → AreLeadsBy p kept seen rows
    → AreLeadsBy p kept (seen ++ d ∷ []) rows
leads_skip p kept seen d rows nothing so_far x y = (
  λ c. let led = (so_far x y).0 c in (led.0, Any_append_left (LeadsBy kept x y) seen (d ∷ []) led.1),
  λ led. elim (Any_push_cases (LeadsBy kept x y) seen d led.1) [
    | inl before ↦ (so_far x y).1 (led.0, before)
    | inr here ↦ absurd (nothing (subst (HasFailed p kept) (sym here.0) led.0) here.1)
  ],
)

-- one more need, of a failed candidate and served by no kept one
pub leads_add : (p : System) (kept : List Bool) (seen : List Need) (d : Need)
    (old new : List (Vec ℕ Global))
    → HasFailed p kept d.of → All (λ z. holds kept z ≡ false) d.any
    → ((y : ℕ) → row_at new y ≡ row_at old y ++ replicate (times y d.any) d.of)
    → AreLeadsBy p kept seen old → AreLeadsBy p kept (seen ++ d ∷ []) new
leads_add p kept seen d old new failed unmet added so_far x y = (
  λ c. elim (Contains-append_cases (row_at old y) (replicate (times y d.any) d.of) x
      (subst (λ row. Contains row x) (added y) c)) [
        | inl before ↦ let led = (so_far x y).0 before in
            (led.0, Any_append_left (LeadsBy kept x y) seen (d ∷ []) led.1)
        | inr here ↦
            let is = Contains_replicate (times y d.any) d.of x here in (
              subst (HasFailed p kept) (sym is.1) failed,
              Any-push (LeadsBy kept x y) seen d
                  (sym is.1, unmet, Contains_from_times y d.any is.0),
            )
      ],
  λ led. subst (λ row. Contains row x) (sym (added y)) (elim (Any_push_cases (LeadsBy kept x y) seen d led.1) [
    | inl before ↦ Contains-append_left (row_at old y) (replicate (times y d.any) d.of) x
        ((so_far x y).1 (led.0, before))
    | inr here ↦ Contains-append_right (row_at old y) (replicate (times y d.any) d.of) x
        (subst (Contains (replicate (times y d.any) d.of)) here.0
        (replicate_Contains (times y d.any) d.of (times_from_Contains y d.any here.2)))
  ]),
)

-- what leads to a candidate is a candidate
pub leads_small : (p : System) (kept : List Bool) (leads : List (Vec ℕ Global)) → AreLeads p kept leads → (z : ℕ)
    → All (λ x. x < length leads) (row_at leads z)
leads_small p kept leads is z k d below =
    let lead = (is.exact (get_or (row_at leads z) k d) z).0 (Contains-get_or (row_at leads z) k d below) in
    omega (arith, is.size, lead.0.0)
