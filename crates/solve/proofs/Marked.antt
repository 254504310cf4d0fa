-- Marks, and the list of what is marked.
use Rattle.std.proofs.Common.{◌≡◌, ◌<◌, ◌≤◌, ◌+◌, ℕ, suc, Bool, true, false, cond, List, [], ◌∷◌, ◌++◌}
use Rattle.std.proofs.Common.{length, take, get_or, set, refl, sym, ◌∙◌, ap, arith, inl, inr}
use Rattle.std.specs.Prelude.{◌||◌, ◌&&◌, not, IsTrue}
use Rattle.std.specs.List.{Contains}
use Rattle.std.proofs.lemmas.List.{get_or-set_same, get_or-set_other, get_or_past, take-append-le, length-take}
use Rattle.std.proofs.lemmas.List.{length_push}
use Rattle.std.proofs.lemmas.List.Sums.{sum_by-set, sum_by-cons}
use Rattle.std.proofs.lemmas.Bool.{cases_Bool, cases_eq, cases_lt, or_right}
use Rattle.solve.specs.System.{holds}
use Rattle.solve.specs.Parts.{count_of}
use Rattle.solve.specs.Rows.{times}
use Rattle.solve.specs.Marks.{AreClear, IsListOf, is_in, IsMarked}
use Rattle.solve.proofs.Times.{is_in_hit, is_in_miss, times_push_same, times_push_other, times_from_Contains}
use Rattle.solve.proofs.Times.{Contains_from_times, is_in_from_Contains}

pub holds_same : (flags : List Bool) (i : ℕ) (b : Bool) → i < length flags → holds (set flags i b) i ≡ b
holds_same flags i b below = get_or-set_same flags i b false below

pub holds_other : (flags : List Bool) (i : ℕ) (b : Bool) (x : ℕ) → (x ≡ i → ⊥) → holds (set flags i b) x ≡ holds flags x
holds_other flags i b x other = get_or-set_other flags i x b false other

pub below_marked : (flags : List Bool) (x : ℕ) → IsTrue (holds flags x) → x < length flags
below_marked flags x h = elim (cases_lt x (length flags)) [
  | inl below ↦ below
  | inr past ↦ absurd (cc (h, get_or_past flags x false past))
]

pub count_mark : (flags : List Bool) (i : ℕ) → i < length flags → holds flags i ≡ false
    → count_of (set flags i true) ≡ count_of flags + 1
count_mark flags i below missing =
    let moved = sum_by-set (λ (b : Bool). cond b 1 0) flags i true false below in
    let weight : Bool → ℕ = λ b. cond b 1 0 in
    let none : weight (get_or flags i false) ≡ weight false = ap weight missing in
    omega (arith, moved, none)

pub count_clear : (flags : List Bool) → AreClear flags → count_of flags ≡ 0
count_clear [] clear = refl
count_clear (b ∷ bs) clear =
    let weight : Bool → ℕ = λ c. cond c 1 0 in
    let here : weight b ≡ 0 = ap weight (clear 0) in
    omega (arith, here, sum_by-cons (λ (c : Bool). cond c 1 0) b bs, count_clear bs (λ x. clear (suc x)))

-- the next number of the row is marked already
pub marked_stay : (row : List ℕ) (old now : List Bool) (list more : List ℕ) (i : ℕ) → i < length row
    → holds now (get_or row i 0) ≡ true
    → IsMarked (take i row) old now list more → IsMarked (take (i + 1) row) old now list more
marked_stay row old now list more i below there so_far = record {
  marks = λ x. elim (cases_eq x (get_or row i 0)) [
    | inl same ↦ ap (holds now) same ∙ there ∙ sym (or_right (holds old x) (is_in (take (i + 1) row) x)
        (is_in_hit row i x below same))
    | inr other ↦ so_far.marks x ∙ ap (λ b. holds old x || b) (sym (is_in_miss row i x below other))
  ];
  front = so_far.front;
  count = so_far.count;
  listed = so_far.listed;
}

-- the next number of the row is marked and listed
pub marked_add : (row : List ℕ) (old now : List Bool) (list more : List ℕ) (i : ℕ) → i < length row
    → get_or row i 0 < length now → holds now (get_or row i 0) ≡ false
    → IsMarked (take i row) old now list more → IsMarked (take (i + 1) row) old (set now (get_or row i 0) true) list
    (more ++ get_or row i 0 ∷ [])
marked_add row old now list more i below small missing so_far =
    let y = get_or row i 0 in
    record {
      marks = λ x. elim (cases_eq x y) [
        | inl same ↦ ap (holds (set now y true)) same ∙ holds_same now y true small
            ∙ sym (or_right (holds old x) (is_in (take (i + 1) row) x) (is_in_hit row i x below same))
        | inr other ↦ holds_other now y true x other ∙ so_far.marks x
            ∙ ap (λ b. holds old x || b) (sym (is_in_miss row i x below other))
      ];
      front =
          let long : length list ≤ length more = omega (arith, ap length so_far.front, length-take (length list) more)
          in
          take-append-le (length list) more (y ∷ []) long ∙ so_far.front;
      count = omega (arith, so_far.count, count_mark now y small missing, length_push more y);
      listed = λ h x. elim (cases_eq x y) [
        | inl same ↦
            let weight : Bool → ℕ = λ b. cond b 1 0 in
            let before : times x more ≡ 0 = so_far.listed h x ∙ ap weight (ap (holds now) same ∙ missing) in
            let after : weight (holds (set now y true) x) ≡ 1 =
            ap weight (ap (holds (set now y true)) same ∙ holds_same now y true small) in
            omega (arith, before, after, times_push_same x more y same)
        | inr other ↦ times_push_other x more y other ∙ so_far.listed h x
            ∙ ap (λ b. cond b 1 0) (sym (holds_other now y true x other))
      ];
    }

-- one more number of the list loses its mark
pub cleared_more : (list : List ℕ) (old now : List Bool) (i : ℕ) → i < length list → get_or list i 0 < length now
    → ((x : ℕ) → holds now x ≡ (holds old x && not (is_in (take i list) x)))
    → (x : ℕ) → holds (set now (get_or list i 0) false) x ≡ (holds old x && not (is_in (take (i + 1) list) x))
cleared_more list old now i below small so_far x = elim (cases_eq x (get_or list i 0)) [
  | inl same ↦ ap (holds (set now (get_or list i 0) false)) same ∙ holds_same now (get_or list i 0) false small
      ∙ sym (and_out (holds old x) (is_in (take (i + 1) list) x) (is_in_hit list i x below same))
  | inr other ↦ holds_other now (get_or list i 0) false x other ∙ so_far x
      ∙ ap (λ b. holds old x && not b) (sym (is_in_miss list i x below other))
]
  where
    and_out : (b c : Bool) → c ≡ true → (b && not c) ≡ false
    and_out true c h = ap not h
    and_out false c h = refl

pub listed_marked : (marks : List Bool) (list : List ℕ) → IsListOf marks list → (x : ℕ) → Contains list x
    → IsTrue (holds marks x)
listed_marked marks list listed x c = elim (cases_Bool (holds marks x)) [
  | inl marked ↦ marked
  | inr missing ↦ absurd (
      let weight : Bool → ℕ = λ b. cond b 1 0 in
      let none : times x list ≡ 0 = listed x ∙ ap weight missing in
      omega (arith, none, times_from_Contains x list c))
]

pub marked_listed : (marks : List Bool) (list : List ℕ) → IsListOf marks list → (x : ℕ) → IsTrue (holds marks x)
    → Contains list x
marked_listed marks list listed x marked =
    let weight : Bool → ℕ = λ b. cond b 1 0 in
    let one : times x list ≡ 1 = listed x ∙ ap weight marked in
    Contains_from_times x list (omega (arith, one))

pub listed_once : (marks : List Bool) (list : List ℕ) → IsListOf marks list → (x : ℕ) → times x list ≤ 1
listed_once marks list listed x = elim (cases_Bool (holds marks x)) [
  | inl marked ↦ let weight : Bool → ℕ = λ b. cond b 1 0 in let one : times x list ≡ 1 = listed x ∙ ap weight marked
      in omega (arith, one)
  | inr missing ↦ let weight : Bool → ℕ = λ b. cond b 1 0 in let none : times x list ≡ 0 = listed x ∙ ap weight missing
      in omega (arith, none)
]

-- what loses the marks of all that is listed is clear
pub clear_from_listed : (marks now : List Bool) (list : List ℕ) → IsListOf marks list
    → ((x : ℕ) → holds now x ≡ (holds marks x && not (is_in list x))) → AreClear now
clear_from_listed marks now list listed cleared x = elim (cases_Bool (holds marks x)) [
  | inl marked ↦ cleared x ∙ ap (λ b. b && not (is_in list x)) marked
      ∙ ap not (is_in_from_Contains list x (marked_listed marks list listed x marked))
  | inr missing ↦ cleared x ∙ ap (λ b. b && not (is_in list x)) missing
]
