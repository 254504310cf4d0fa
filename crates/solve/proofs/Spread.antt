-- A search backwards from y, over plain lists.
use Rattle.std.proofs.Common.{◌≡◌, ◌<◌, ◌≤◌, ◌+◌, ℕ, Bool, true, false, List, [], ◌∷◌, length}
use Rattle.std.proofs.Common.{take, get_or, set, sym, ◌∙◌, subst, ap, arith, inl, inr}
use Rattle.std.specs.Prelude.{IsTrue, Vec, ◌↔◌, ◌||◌}
use Rattle.std.specs.declared.alloc.Global.{Global}
use Rattle.std.specs.List.{All, Contains}
use Rattle.std.proofs.lemmas.List.{take-take, take_all, get_or-take, length-take, length-set}
use Rattle.std.proofs.lemmas.List.Elements.{All-nil, All-more, All-contains, All-weaker, Contains-get_or}
use Rattle.std.proofs.lemmas.Bool.{cases_eq, or_right, or_cases}
use Rattle.solve.specs.System.{System, holds}
use Rattle.solve.specs.Causes.{LeadsTo, LeadsThrough, LeadsOn}
use Rattle.solve.specs.Parts.{count_of}
use Rattle.solve.specs.Rows.{row_at, one_if}
use Rattle.solve.specs.Marks.{AreLeads, AreClear, IsListOf, IsMarked, is_in}
use Rattle.solve.proofs.Times.{times_push_same, times_push_other, Contains_from_is_in, is_in_from_Contains}
use Rattle.solve.proofs.Marked.{holds_same, holds_other, count_mark, count_clear, below_marked, listed_marked}
use Rattle.solve.proofs.Marked.{marked_listed}

-- all in the row are marked
abbrev pub AllMarked : List Bool → List ℕ → Type 0
AllMarked marks row = All (λ x. IsTrue (holds marks x)) row

-- The marked reach y, and those listed before a place have the marks of all that lead to them.
pub record IsSpread (leads : List (Vec ℕ Global)) (y : ℕ) (marks : List Bool) (list : List ℕ) (next : ℕ) : Type 0 where
  pub size : length marks ≡ length leads
  pub listed : IsListOf marks list
  pub count : length list ≡ count_of marks
  pub place : next ≤ length list
  pub start : IsTrue (holds marks y)
  pub reach : (p : System) (kept : List Bool) → AreLeads p kept leads → (x : ℕ) → IsTrue (holds marks x)
      → LeadsOn p kept x y
  pub done : All (λ z. AllMarked marks (row_at leads z)) (take next list)

pub spread_start : (leads : List (Vec ℕ Global)) (y : ℕ) (old : List Bool) → length old ≡ length leads
    → y < length leads → AreClear old → IsSpread leads y (set old y true) (y ∷ []) 0
spread_start leads y old size below clear =
    let small : y < length old = omega (arith, size, below) in
    record {
      size = length_set_is old y ∙ size;
      listed = λ x. elim (cases_eq x y) [
        | inl same ↦ times_push_same x [] y same ∙ one (holds (set old y true) x)
            (ap (holds (set old y true)) same ∙ holds_same old y true small)
        | inr other ↦ times_push_other x [] y other ∙ none (holds (set old y true) x)
            (holds_other old y true x other ∙ clear x)
      ];
      count = omega (arith, count_mark old y small (clear y), count_clear old clear);
      place = omega arith;
      start = holds_same old y true small;
      reach = λ p kept leads' x marked. elim (cases_eq x y) [
        | inl same ↦ ([], same)
        | inr other ↦ absurd (cc (marked, holds_other old y true x other, clear x))
      ];
      done = All-nil _;
    }
  where
    length_set_is : (l : List Bool) (i : ℕ) → length (set l i true) ≡ length l
    length_set_is l i = simp length-set

    one : (b : Bool) → b ≡ true → 0 + 1 ≡ one_if b
    one b h = ap one_if (sym h)

    none : (b : Bool) → b ≡ false → one_if false ≡ one_if b
    none b h = ap one_if (sym h)

-- the row of the next one listed is marked
pub spread_more : (leads : List (Vec ℕ Global)) (y : ℕ) (marks new : List Bool) (list more : List ℕ) (next : ℕ)
    → next < length list → length new ≡ length marks
    → IsMarked (row_at leads (get_or list next 0)) marks new list more → IsSpread leads y marks list next
    → IsSpread leads y new more (next + 1)
spread_more leads y marks new list more next below size marked so_far =
    let z = get_or list next 0 in
    let row = row_at leads z in
    let stays : (x : ℕ) → IsTrue (holds marks x) → IsTrue (holds new x) =
    λ x h. marked.marks x ∙ ap (λ b. b || is_in row x) h in
    let within : Contains list z = Contains-get_or list next 0 below in
    let z_marked = listed_marked marks list so_far.listed z within in
    let front : take next more ≡ take next list =
    sym (take-take next (length list) more (omega arith)) ∙ ap (take next) marked.front in
    let here : get_or more next 0 ≡ z =
    sym (get_or-take (length list) more next 0 below) ∙ ap (λ xs. get_or xs next 0) marked.front in
    let long : length list ≤ length more = omega (arith, ap length marked.front, length-take (length list) more) in
    record {
      size = size ∙ so_far.size;
      listed = marked.listed so_far.listed;
      count = omega (arith, marked.count, so_far.count);
      place = omega arith;
      start = stays y so_far.start;
      reach = λ p kept is x h. elim (or_cases (holds marks x) (is_in row x) (sym (marked.marks x) ∙ h)) [
        | inl before ↦ so_far.reach p kept is x before
        | inr added ↦
            let lead : LeadsTo p kept x z = (is.exact x z).0 (Contains_from_is_in row x added) in
            let further = so_far.reach p kept is z z_marked in
            (z ∷ further.0, (lead, further.1))
      ];
      done = All-more (λ w. AllMarked new (row_at leads w)) more next 0 (omega (arith, long))
          (subst (All (λ w. AllMarked new (row_at leads w))) (sym front)
          (All-weaker (λ w. AllMarked marks (row_at leads w)) (λ w. AllMarked new (row_at leads w))
          (λ w all k d in_row. stays _ (all k d in_row)) (take next list) so_far.done))
          (subst (λ w. AllMarked new (row_at leads w)) (sym here)
          (λ k d in_row. marked.marks (get_or row k d) ∙ or_right (holds marks (get_or row k d))
          (is_in row (get_or row k d)) (is_in_from_Contains row (get_or row k d)
          (Contains-get_or row k d in_row))));
    }

-- the next one listed has a row
pub spread_next : (leads : List (Vec ℕ Global)) (y : ℕ) (marks : List Bool) (list : List ℕ) (next : ℕ)
    → next < length list → IsSpread leads y marks list next → get_or list next 0 < length leads
spread_next leads y marks list next below spread =
    let marked = listed_marked marks list spread.listed (get_or list next 0) (Contains-get_or list next 0 below) in
    omega (arith, spread.size, below_marked marks (get_or list next 0) marked)

pub spread_within : (leads : List (Vec ℕ Global)) (y : ℕ) (marks : List Bool) (list : List ℕ) (next : ℕ)
    → IsSpread leads y marks list next → All (λ x. x < length leads) list
spread_within leads y marks list next spread k d below =
    let marked = listed_marked marks list spread.listed (get_or list k d) (Contains-get_or list k d below) in
    omega (arith, spread.size, below_marked marks (get_or list k d) marked)

-- where all listed ones are done, whatever reaches a marked one is marked
marked_steps : (p : System) (kept : List Bool) (leads : List (Vec ℕ Global)) (marks : List Bool)
    → AreLeads p kept leads
    → ((z : ℕ) → IsTrue (holds marks z) → AllMarked marks (row_at leads z))
    → (x : ℕ) (steps : List ℕ) (y : ℕ) → LeadsThrough p kept x steps y → IsTrue (holds marks y) → IsTrue (holds marks x)
marked_steps p kept leads marks is closed x [] y same marked = subst (λ n. IsTrue (holds marks n)) (sym same) marked
marked_steps p kept leads marks is closed x (z ∷ zs) y steps marked =
    let next = marked_steps p kept leads marks is closed z zs y steps.1 marked in
    All-contains (λ w. IsTrue (holds marks w)) (row_at leads z) x (closed z next) ((is.exact x z).1 steps.0)

pub spread_exact : (leads : List (Vec ℕ Global)) (y : ℕ) (marks : List Bool) (list : List ℕ) (next : ℕ)
    → length list ≤ next → IsSpread leads y marks list next
    → (p : System) (kept : List Bool) → AreLeads p kept leads → (x : ℕ) → Contains list x ↔ LeadsOn p kept x y
spread_exact leads y marks list next end spread p kept is x =
    let closed : (z : ℕ) → IsTrue (holds marks z) → AllMarked marks (row_at leads z) = λ z marked.
    All-contains (λ w. AllMarked marks (row_at leads w)) list z
    (subst (All (λ w. AllMarked marks (row_at leads w))) (take_all next list end) spread.done)
    (marked_listed marks list spread.listed z marked) in (
      λ c. spread.reach p kept is x (listed_marked marks list spread.listed x c),
      λ led. marked_listed marks list spread.listed x (marked_steps p kept leads marks is closed x led.0 y led.1
          spread.start),
    )
