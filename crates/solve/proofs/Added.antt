-- Rows, and a value added to some.
use Rattle.std.proofs.Common.{◌≡◌, ◌<◌, ◌+◌, ℕ, true, false, List, [], ◌∷◌, ◌++◌, length, map, take}
use Rattle.std.proofs.Common.{get_or, set, replicate, sym, ◌∙◌, ap, inl, inr}
use Rattle.std.specs.Prelude.{Vec, ◌==◌}
use Rattle.std.specs.declared.alloc.Global.{Global}
use Rattle.std.proofs.lemmas.List.{get_or-set_same, get_or-set_other, get_or-map, length-map, map-set}
use Rattle.std.proofs.lemmas.List.{replicate_more, append_assoc}
use Rattle.std.proofs.lemmas.List.Sums.{count_by_more_yes, count_by_more_no}
use Rattle.std.proofs.lemmas.Bool.{cases_Bool, cases_eq}
use Rattle.std.proofs.Common.{eq-eqb}
use borrow.Author.Tests.{eqb-true}
use Rattle.solve.specs.Rows.{row_at, times}

row_at_set_same : {X : Type 0} (rows : List (Vec X Global)) (x : ℕ) (v : Vec X Global) → x < length rows
    → row_at (set rows x v) x ≡ v.items
row_at_set_same rows x v below =
    ap (λ ls. get_or ls x []) (map-set (λ row. row.items) rows x v)
    ∙ get_or-set_same (map (λ row. row.items) rows) x v.items [] (rw length-map below)

row_at_set_other : {X : Type 0} (rows : List (Vec X Global)) (x k : ℕ) (v : Vec X Global) → (k ≡ x → ⊥)
    → row_at (set rows x v) k ≡ row_at rows k
row_at_set_other rows x k v other =
    ap (λ ls. get_or ls k []) (map-set (λ row. row.items) rows x v)
    ∙ get_or-set_other (map (λ row. row.items) rows) x k v.items [] other

pub row_at_get_or : {X : Type 0} (rows : List (Vec X Global)) (x : ℕ) (d : Vec X Global) → x < length rows
    → row_at rows x ≡ (get_or rows x d).items
row_at_get_or rows x d below = get_or-map (λ row. row.items) rows x d [] below

-- a row that is read
pub row_at_read : {X : Type 0} (rows : List (Vec X Global)) (x : ℕ) (v : Vec X Global) (row : List X) → x < length rows
    → v ≡ get_or rows x v → row ≡ v.items → row_at rows x ≡ row
row_at_read rows x v row below is items = row_at_get_or rows x v below ∙ ap (λ w. w.items) (sym is) ∙ sym items

-- one more number of the list has the value in its row
pub added_more : {X : Type 0} (old now : List (Vec X Global)) (list : List ℕ) (i y : ℕ) (value : X) (v d : Vec X Global)
    → i < length list → y ≡ get_or list i 0 → y < length now → v.items ≡ (get_or now y d).items ++ value ∷ []
    → ((x : ℕ) → row_at now x ≡ row_at old x ++ replicate (times x (take i list)) value)
    → (x : ℕ) → row_at (set now y v) x ≡ row_at old x ++ replicate (times x (take (i + 1) list)) value
added_more old now list i y value v d below is in_rows pushed so_far x = elim (cases_eq x y) [
  | inl same ↦
      let hit : (get_or list i 0 == x) ≡ true = eq-eqb (get_or list i 0) x (sym is ∙ sym same) in
      let count : times x (take (i + 1) list) ≡ times x (take i list) + 1 =
      count_by_more_yes (λ z. z == x) list i 0 below hit in
      ap (λ n. row_at (set now y v) n) same ∙ row_at_set_same now y v in_rows ∙ pushed
      ∙ ap (λ row. row ++ value ∷ []) (sym (row_at_get_or now y d in_rows) ∙ ap (row_at now) (sym same) ∙ so_far x)
      ∙ append_assoc (row_at old x) (replicate (times x (take i list)) value) (value ∷ [])
      ∙ ap (λ row. row_at old x ++ row) (replicate_more (times x (take i list)) value
      ∙ ap (λ n. replicate n value) (sym count))
  | inr other ↦
      let miss : (get_or list i 0 == x) ≡ false = elim (cases_Bool (get_or list i 0 == x)) [
        | inl hit ↦ absurd (other (sym (is ∙ eqb-true (get_or list i 0) x hit)))
        | inr missed ↦ missed
      ] in
      row_at_set_other now y x v other ∙ so_far x
      ∙ ap (λ n. row_at old x ++ replicate n value) (sym (count_by_more_no (λ z. z == x) list i 0 below miss))
]
