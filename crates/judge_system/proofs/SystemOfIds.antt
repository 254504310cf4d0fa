-- The numbered system keeps a number exactly if its id stays kept.
use Rattle.std.specs.Prelude.{◌≡◌, ◌&&◌, ◌||◌, ◌<◌, ℕ, zero, suc, Bool, false, List, [], ◌∷◌, Option, None, Some, Any}
use Rattle.std.specs.Prelude.{Contains, IsTrue, slice_get, slice_index_or, refl}
use Rattle.std.specs.Option.{option_map_or}
use Rattle.std.specs.Str.{bytes_eq}
use Rattle.std.proofs.Common.{sym, ◌∙◌, ap, subst, inl, inr}
use Rattle.std.proofs.Math.Bool.{or-true}
use Rattle.std.proofs.lemmas.Bool.{or_cases, and_parts}
use Rattle.std.proofs.lemmas.Option.{slice_get-get_or, same_Some}
use Rattle.std.proofs.lemmas.Slice.Eq.{bytes_eq-Decides}
use Rattle.terms.proofs.Places.{All-found}
use Rattle.terms.specs.Types.{Id}
use Rattle.terms.specs.declared.codes.NeedKind.{NeedKind}
use Rattle.terms.specs.declared.codes.NeedKind.TheVariants.{Fmid}
use Rattle.solve.specs.System.{Need, IsNeed, System, IsKept}
use Rattle.terms.specs.Judging.{Judging}
use Rattle.terms.specs.Kept.{StaysKept}
use Rattle.judge_system.specs.NumberedForm.{IsNumberedForm}

-- the ids of a set of numbers
abbrev pub ids_in : List Id → (ℕ → Bool) → Id → Bool
ids_in [] set x = false
ids_in (y ∷ ys) set x = (bytes_eq x y && set zero) || ids_in ys (λ n. set (suc n)) x

pub ids_in_from : (ids : List Id) (set : ℕ → Bool) (n : ℕ) (x : Id) → slice_get ids n ≡ Some x → IsTrue (set n)
    → IsTrue (ids_in ids set x)
ids_in_from [] set n x e m = absurd (cc e)
ids_in_from (y ∷ ys) set zero x e m =
    ap (λ v. v || ids_in ys (λ n. set (suc n)) x)
    (ap (λ v. v && set zero) ((bytes_eq-Decides x y).1 (sym (same_Some y x e))) ∙ m)
ids_in_from (y ∷ ys) set (suc n) x e m =
    ap (λ v. (bytes_eq x y && set zero) || v) (ids_in_from ys (λ k. set (suc k)) n x e m)
    ∙ or-true (bytes_eq x y && set zero)

pub ids_in_gives : (ids : List Id) (set : ℕ → Bool) (x : Id) → IsTrue (ids_in ids set x)
    → (n : ℕ) × (slice_get ids n ≡ Some x) × IsTrue (set n)
ids_in_gives [] set x m = absurd (cc m)
ids_in_gives (y ∷ ys) set x m = elim (or_cases (bytes_eq x y && set zero) (ids_in ys (λ n. set (suc n)) x) m) [
  | inl a ↦ let p = and_parts (bytes_eq x y) (set zero) a in (
    zero,
    ap (λ v. Some v) (sym ((bytes_eq-Decides x y).0 p.0)),
    p.1,
  )
  | inr b ↦ let r = ids_in_gives ys (λ n. set (suc n)) x b in (suc r.0, r.1, r.2)
]

-- the system numbers what is judged
abbrev pub IsFormOf : Judging → System → List (NeedKind × Id) → Type 0
IsFormOf judging p needed =
    IsNumberedForm judging.eligible judging.needs judging.serves judging.cands p needed

-- a kept number's id stays kept
pub stays_from_kept : (judging : Judging) (p : System) (needed : List (NeedKind × Id))
    → IsFormOf judging p needed → (n : ℕ) (x : Id) → slice_get judging.cands n ≡ Some x → IsKept p n
    → StaysKept judging x
stays_from_kept judging p needed h n x is u = (
  ids_in judging.cands u.0,
  record {
    eligible = λ y m. let g = ids_in_gives judging.cands u.0 y m in (h.eligible g.0 y g.1).0 (u.1.eligible g.0 g.2);
    served = λ y z kind m need.
        let g = ids_in_gives judging.cands u.0 y m in
        let a = h.all g.0 y z kind g.1 need in
        let numbered = h.needs a.0 a.1 (kind, z) a.2 a.3 in
        let P : Need → Type 0 = λ d. IsTrue (u.0 d.of) → Any (λ k. IsTrue (u.0 k)) d.any in
        let some = All-found P p.needs a.0 a.1 u.1.served a.2 (subst (λ k. IsTrue (u.0 k)) (sym a.4) g.2) in
        let below = (All-found (IsNeed p.size) p.needs a.0 a.1 h.numbers.needs a.2).any in
        let within = subst (λ k. k < p.size) some.3 (below some.0 some.1 some.2) in
        let v = slice_index_or judging.cands some.1 x in
        let number = slice_get-get_or judging.cands some.1 x (subst (λ k. some.1 < k) h.size within) in (
          v,
          ids_in_from judging.cands u.0 some.1 v number some.4,
          (numbered.any some.1 v number).0 (some.0, some.2, some.3),
        );
  },
  ids_in_from judging.cands u.0 n x is u.2,
)

-- the numbers of a set of ids
abbrev pub numbers_in : List Id → (Id → Bool) → ℕ → Bool
numbers_in ids set n = option_map_or set (slice_get ids n) false

pub numbers_in_from : (ids : List Id) (set : Id → Bool) (n : ℕ) (x : Id) → slice_get ids n ≡ Some x → IsTrue (set x)
    → IsTrue (numbers_in ids set n)
numbers_in_from ids set n x e m = ap (λ o. option_map_or set o false) e ∙ m

option_gives : (set : Id → Bool) (o : Option Id) → IsTrue (option_map_or set o false)
    → (x : Id) × (o ≡ Some x) × IsTrue (set x)
option_gives set None m = absurd (cc m)
option_gives set (Some x) m = (x, refl, m)

-- an id that stays kept has a kept number
pub kept_from_stays : (judging : Judging) (p : System) (needed : List (NeedKind × Id))
    → IsFormOf judging p needed → ((x : Id) → judging.eligible x → Contains judging.cands x) → (n : ℕ) (x : Id)
    → slice_get judging.cands n ≡ Some x → StaysKept judging x → IsKept p n
kept_from_stays judging p needed h within n x is u = (
  numbers_in judging.cands u.0,
  record {
    eligible = λ k m.
        let g = option_gives u.0 (slice_get judging.cands k) m in
        (h.eligible k g.0 g.1).1 (u.1.eligible g.0 g.2);
    served = λ i d below m.
        let numbered = slice_index_or p.needs i d in
        let at = slice_get-get_or p.needs i d below in
        let need = slice_index_or needed i (Fmid, x) in
        let at_need = slice_get-get_or needed i (Fmid, x) (subst (λ k. i < k) (sym h.lengths) below) in
        let meant = h.needs i numbered need at at_need in
        let g = option_gives u.0 (slice_get judging.cands numbered.of) m in
        let member = subst (λ v. IsTrue (u.0 v)) (same_Some g.0 meant.of.0 (sym g.1 ∙ meant.of.1)) g.2 in
        let r = u.1.served meant.of.0 need.1 need.0 member meant.of.2 in
        let place = within r.0 (u.1.eligible r.0 r.1) in
        let number = slice_get-get_or judging.cands place.0 r.0 place.1 ∙ ap (λ v. Some v) place.2 in
        let some = (meant.any place.0 r.0 number).1 r.2 in
        (some.0, place.0, some.1, some.2, numbers_in_from judging.cands u.0 place.0 r.0 number r.1);
  },
  numbers_in_from judging.cands u.0 n x is u.2,
)
