-- Rows of open needs, as the needs of a system are gone through.
use Rattle.std.proofs.Common.{◌≡◌, inl, inr, ℕ, ◌<◌, ◌+◌, Bool, true, false, not, cond, List, [], ◌∷◌, ◌++◌, length}
use Rattle.std.proofs.Common.{map, get_or, set, Some, IsTrue, Contains, refl, sym, ap, ap₂, ◌∙◌, subst, arith}
use Rattle.std.proofs.Common.{slice_get, eq-eqb}
use Rattle.std.specs.Prelude.{Vec, ◌==◌, ◌&&◌}
use Rattle.std.specs.List.{list_any}
use Rattle.std.specs.declared.alloc.Global.{Global}
use Rattle.std.proofs.lemmas.Bool.{cases_lt, cases_eq}
use Rattle.std.proofs.lemmas.List.{get_or-set_same, get_or-set_other, length-map, map-set, append-nil}
use Rattle.std.proofs.lemmas.List.Elements.{Contains-append_left, Contains-append_right, Contains-append_cases}
use Rattle.terms.specs.declared.codes.NeedKind.{NeedKind}
use Rattle.terms.specs.Types.{Id}
use Rattle.solve.specs.System.{Need, holds}
use Rattle.solve.specs.Rows.{row_at}
use Rattle.solve.proofs.Added.{row_at_get_or}
use Rattle.solve.proofs.Times.{eqb_other}
use Rattle.judge_system.specs.Open.{is_open_of, open_of, HaveOpen}
use Rattle.solve.proofs.Choosing.{taken, take_one, same_at}

-- a value at the end of one row
pub row_pushed : {X : Type 0} (rows : List (Vec X Global)) (y : ℕ) (v d : Vec X Global) (value : X) → y < length rows
    → v.items ≡ (get_or rows y d).items ++ value ∷ [] → (x : ℕ)
    → row_at (set rows y v) x ≡ row_at rows x ++ cond (y == x) (value ∷ []) []
row_pushed rows y v d value below pushed x = elim (cases_eq x y) [
  | inl same ↦
      ap (λ n. row_at (set rows y v) n) same
      ∙ ap (λ ls. get_or ls y []) (map-set (λ row. row.items) rows y v)
      ∙ get_or-set_same (map (λ row. row.items) rows) y v.items [] (rw length-map below)
      ∙ pushed
      ∙ ap₂ (λ row b. row ++ cond b (value ∷ []) [])
      (sym (row_at_get_or rows y d below) ∙ ap (row_at rows) (sym same))
      (sym (eq-eqb y x (sym same)))
  | inr other ↦
      ap (λ ls. get_or ls x []) (map-set (λ row. row.items) rows y v)
      ∙ get_or-set_other (map (λ row. row.items) rows) y x v.items [] other
      ∙ sym (append-nil (row_at rows x))
      ∙ ap (λ b. row_at rows x ++ cond b (value ∷ []) []) (sym (eqb_other y x (λ same. other (sym same))))
]

and-true : (a b : Bool) → b ≡ true → (a && b) ≡ a
and-true true b e = e
and-true false b e = refl

-- a need that nothing kept serves is one of its candidate alone, and one that is served is none
pub open_where : (kept : List Bool) (d : Need) (need : NeedKind × Id) (x : ℕ)
    → list_any (holds kept) d.any ≡ false
    → open_of kept d need x ≡ cond (d.of == x) (need ∷ []) []
open_where kept d need x unserved = ap (λ b. cond b (need ∷ []) [])
    (and-true (d.of == x) (not (list_any (holds kept) d.any)) (ap not unserved))

-- one more need
pub open_next : (kept : List Bool) (needs : List Need) (needed : List (NeedKind × Id)) (i : ℕ)
    (d : Need)
    (need : NeedKind × Id)
    (old new : List (Vec (NeedKind × Id) Global)) → slice_get needs i ≡ Some d → slice_get needed i ≡ Some need
    → ((x : ℕ) → row_at new x ≡ row_at old x ++ open_of kept d need x) → HaveOpen kept needs needed i old
    → HaveOpen kept needs needed (i + 1) new
open_next kept needs needed i d need old new at_d at_need added so_far x z = (
  λ h. elim (Contains-append_cases (row_at old x) (open_of kept d need x) z (subst (λ l. Contains l z) (added x) h)) [
    | inl before ↦ let w = (so_far x z).0 before in (w.0, w.1, omega (arith, w.2), w.3, w.4, w.5)
    | inr here ↦ let t = taken (is_open_of kept d x) need z here
        in (i, d, omega arith, at_d, at_need ∙ ap (λ v. Some v) t.1, t.0)
  ],
  λ w. subst (λ l. Contains l z) (sym (added x)) (elim (cases_lt w.0 i) [
    | inl before ↦ Contains-append_left (row_at old x) (open_of kept d need x) z
        ((so_far x z).1 (w.0, w.1, before, w.3, w.4, w.5))
    | inr past ↦
        let here : w.0 ≡ i = omega (arith, past, w.2) in
        let same : need ≡ z = sym (same_at needed w.0 i z need here w.4 at_need) in
        let same_d : w.1 ≡ d = same_at needs w.0 i w.1 d here w.3 at_d in
        let on : IsTrue (is_open_of kept d x) = subst (λ e. IsTrue (is_open_of kept e x)) same_d w.5 in
        Contains-append_right (row_at old x) (open_of kept d need x) z
        (subst (Contains (open_of kept d need x)) same (take_one (is_open_of kept d x) need on))
  ]),
)
