-- How often a number stands in a list, and whether.
use Rattle.std.proofs.Common.{◌≡◌, ◌<◌, ◌+◌, ℕ, suc, Bool, true, false, cond, List, [], ◌∷◌, ◌++◌, length}
use Rattle.std.proofs.Common.{take, get_or, replicate, refl, sym, ◌∙◌, subst, ap, arith, inl, inr, eq-eqb}
use Rattle.std.specs.Prelude.{◌==◌, ◌||◌}
use Rattle.std.specs.List.{Contains}
use Rattle.std.proofs.lemmas.List.{length-replicate, get_or-replicate}
use Rattle.std.proofs.lemmas.List.Folds.{list_any_more, Any-from_list_any, list_any-from_Any}
use Rattle.std.proofs.lemmas.List.Sums.{sum_by_push, get_or-le-sum_by, sum_by-cons}
use Rattle.std.proofs.lemmas.Bool.{cases_Bool, cases_eq, or_right}
use borrow.Author.Tests.{eqb-true}
use Rattle.solve.specs.Rows.{times}
use Rattle.solve.specs.Marks.{is_in}

pub eqb_other : (a b : ℕ) → (a ≡ b → ⊥) → (a == b) ≡ false
eqb_other a b other = elim (cases_Bool (a == b)) [
  | inl same ↦ absurd (other (eqb-true a b same))
  | inr apart ↦ apart
]

pub or_false : (b c : Bool) → c ≡ false → (b || c) ≡ b
or_false true c h = refl
or_false false c h = h

pub Contains_from_is_in : (list : List ℕ) (x : ℕ) → is_in list x ≡ true → Contains list x
Contains_from_is_in list x h =
    let a = Any-from_list_any (λ y. y == x) list h in
    let same : a.1 ≡ x = eqb-true a.1 x a.4 in
    subst (Contains list) same (a.0, a.2, a.3)

pub is_in_from_Contains : (list : List ℕ) (x : ℕ) → Contains list x → is_in list x ≡ true
is_in_from_Contains list x c = list_any-from_Any (λ y. y == x) list (c.0, x, c.1, c.2, eq-eqb x x refl)

pub is_in_hit : (list : List ℕ) (i x : ℕ) → i < length list → x ≡ get_or list i 0 → is_in (take (i + 1) list) x ≡ true
is_in_hit list i x below here =
    list_any_more (λ y. y == x) list i 0 below ∙ or_right (is_in (take i list) x) (get_or list i 0 == x)
    (eq-eqb (get_or list i 0) x (sym here))

pub is_in_miss : (list : List ℕ) (i x : ℕ) → i < length list → (x ≡ get_or list i 0 → ⊥)
    → is_in (take (i + 1) list) x ≡ is_in (take i list) x
is_in_miss list i x below other =
    list_any_more (λ y. y == x) list i 0 below ∙ or_false (is_in (take i list) x) (get_or list i 0 == x)
    (eqb_other (get_or list i 0) x (λ same. other (sym same)))

pub times_push_same : (x : ℕ) (list : List ℕ) (y : ℕ) → x ≡ y → times x (list ++ y ∷ []) ≡ times x list + 1
times_push_same x list y same =
    let weight : Bool → ℕ = λ b. cond b 1 0 in
    sum_by_push (λ z. cond (z == x) 1 0) list y ∙ ap (λ n. times x list + n) (ap weight (eq-eqb y x (sym same)))

pub times_push_other : (x : ℕ) (list : List ℕ) (y : ℕ) → (x ≡ y → ⊥) → times x (list ++ y ∷ []) ≡ times x list
times_push_other x list y other =
    let weight : Bool → ℕ = λ b. cond b 1 0 in
    let none : weight (y == x) ≡ 0 = ap weight (eqb_other y x (λ same. other (sym same))) in
    let pushed = sum_by_push (λ z. cond (z == x) 1 0) list y in
    omega (arith, pushed, none)

pub Contains_from_times : (x : ℕ) (list : List ℕ) → 0 < times x list → Contains list x
Contains_from_times x [] some = absurd (omega (arith, some))
Contains_from_times x (y ∷ ys) some = elim (cases_eq y x) [
  | inl same ↦ (0, omega arith, same)
  | inr other ↦
      let weight : Bool → ℕ = λ b. cond b 1 0 in
      let none : weight (y == x) ≡ 0 = ap weight (eqb_other y x other) in
      let rest = Contains_from_times x ys (omega (arith, some, none, sum_by-cons (λ z. cond (z == x) 1 0) y ys)) in
      (suc rest.0, omega (arith, rest.1), rest.2)
]

pub times_from_Contains : (x : ℕ) (list : List ℕ) → Contains list x → 0 < times x list
times_from_Contains x list c =
    let weight : Bool → ℕ = λ b. cond b 1 0 in
    let one : weight (get_or list c.0 x == x) ≡ 1 = ap weight (eq-eqb (get_or list c.0 x) x c.2) in
    omega (arith, one, get_or-le-sum_by (λ z. cond (z == x) 1 0) list c.0 x c.1)

pub Contains_replicate : (n v x : ℕ) → Contains (replicate n v) x → (0 < n) × (x ≡ v)
Contains_replicate n v x c =
    let short : length (replicate n v) ≡ n = length-replicate n v in
    let low : c.0 < n = omega (arith, c.1, short) in
    (omega (arith, low), sym c.2 ∙ get_or-replicate n c.0 v x low)

pub replicate_Contains : (n v : ℕ) → 0 < n → Contains (replicate n v) v
replicate_Contains n v some =
    let short : length (replicate n v) ≡ n = length-replicate n v in
    (0, omega (arith, short, some), get_or-replicate n 0 v v some)
