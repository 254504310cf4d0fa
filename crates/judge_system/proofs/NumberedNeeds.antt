-- The numbered needs of a system stand beside the needs, and so it is the system of what is said.
use Rattle.std.proofs.Common.{◌≡◌, ◌≢◌, inl, inr, ℕ, ◌<◌, ◌+◌, Bool, List, [], ◌∷◌, ◌++◌, Some, IsTrue, Contains}
use Rattle.std.proofs.Common.{sym, ap, ◌∙◌, subst, subst₂, map, length, slice_get}
use Rattle.std.specs.Prelude.{◌↔◌, AllPairs, take}
use Rattle.std.specs.Option.{option_map}
use Rattle.std.proofs.lemmas.Bool.{cases_order}
use Rattle.std.proofs.lemmas.List.{length-map}
use Rattle.std.proofs.lemmas.Option.{slice_get_within, slice_get-map, get_or_from_slice_get, same_Some}
use Rattle.terms.proofs.Places.{contains_at, found_at, at_place}
use Rattle.terms.proofs.BesideLists.{beside_at}
use Rattle.terms.specs.declared.codes.NeedKind.{NeedKind}
use Rattle.terms.specs.Types.{Id}
use Rattle.terms.specs.Lookups.{IsRising}
use Rattle.solve.specs.System.{Need, System, IsNeed, IsSystem, holds}
use Rattle.judge_system.specs.NumberedForm.{IsNumberedForm}
use Rattle.judge_system.specs.declared.stated.RequisiteOf.{RequisiteOf}
use Rattle.judge_system.specs.Said.{Said, a_need, IsEligible, Needs, Serves}
use Rattle.judge_system.specs.Numbered.{need_of, IsNeedFor, HasNeeds, AddsNeed, HasSystem}
use Rattle.judge_system.proofs.CandidateIds.{one_number}

adds_over : (old new : System) (d : Need) → new ≡ record old { needs = old.needs ++ d ∷ [] }
    → (new.size ≡ old.size) × (new.eligible ≡ old.eligible) × (new.needs ≡ old.needs ++ d ∷ [])
adds_over old new d e = (
  ap (λ (p : System). p.size) e,
  ap (λ (p : System). p.eligible) e,
  ap (λ (p : System). p.needs) e,
)

module _ (ids : List Id) (pairs : List (Id × ℕ)) (flags : List Bool) where
  -- one more need
  pub needs_next : (stated : List RequisiteOf) (i : ℕ) (w : RequisiteOf) (old new : System)
      → slice_get stated i ≡ Some w
      → AddsNeed ids pairs w old new → HasNeeds ids pairs flags (take i stated) old
      → HasNeeds ids pairs flags (take (i + 1) stated) new
  needs_next stated i w old new at a h =
      let over = adds_over old new a.numbered a.system in
      record {
        size = over.0 ∙ h.size;
        eligible = over.1 ∙ h.eligible;
        needs = beside_at (λ n w d. IsNeedFor ids pairs w d) stated old.needs new.needs i w a.numbered at over.2
            a.for h.needs;
      }

  module _ (stated : List RequisiteOf) (p : System) (h : HasNeeds ids pairs flags stated p) where
    need_at : (i : ℕ) (w : RequisiteOf) → slice_get stated i ≡ Some w
        → slice_get (map need_of stated) i ≡ Some (need_of w)
    need_at i w at = slice_get-map need_of stated i ∙ ap (option_map need_of) at

    -- a numbered need and what it means are those of the need at their place
    is_numbered : (i : ℕ) (d : Need) (need : NeedKind × Id) → slice_get p.needs i ≡ Some d
        → slice_get (map need_of stated) i ≡ Some need
        → (w : RequisiteOf) × (slice_get stated i ≡ Some w) × IsNeedFor ids pairs w d × (w ≡ a_need w.of need.0 need.1)
    is_numbered i d need at_d at_need =
        let w = at_place stated i (subst (λ k. i < k) h.needs.lengths (slice_get_within p.needs i d at_d)) in
        let is : need_of w.0 ≡ need = same_Some (need_of w.0) need (sym (need_at i w.0 w.1) ∙ at_need) in
        (w.0, w.1, h.needs.each i w.0 d w.1 at_d, ap (λ n. a_need w.0.of n.0 n.1) is)

    -- and each need has its number
    numbered_at : (i : ℕ) (w : RequisiteOf) → slice_get stated i ≡ Some w
        → (d : Need) × (slice_get p.needs i ≡ Some d) × (slice_get (map need_of stated) i ≡ Some (need_of w))
        × (slice_get ids d.of ≡ Some w.of)
    numbered_at i w at =
        let d = at_place p.needs i (subst (λ k. i < k) (sym h.needs.lengths) (slice_get_within stated i w at)) in
        (d.0, d.1, need_at i w at, (h.needs.each i w d.0 at d.1).of)

    is_system : length flags ≡ length ids → IsSystem p
    is_system many = record {
      flags = ap length h.eligible ∙ many ∙ sym h.size;
      needs = λ k d below.
          let e = at_place p.needs k below in
          let w = at_place stated k (subst (λ n. k < n) h.needs.lengths below) in
          subst₂ IsNeed (sym h.size) (sym (get_or_from_slice_get p.needs k e.0 d e.1))
          (h.needs.each k w.0 e.0 w.1 e.1).admitted;
    }

    -- each once
    needs_once : AllPairs (λ v w. v ≢ w) stated → (i j : ℕ) (d e : Need) (need : NeedKind × Id)
        → slice_get p.needs i ≡ Some d → slice_get p.needs j ≡ Some e
        → slice_get (map need_of stated) i ≡ Some need → slice_get (map need_of stated) j ≡ Some need → d.of ≡ e.of
        → i ≡ j
    needs_once once i j d e need at_d at_e need_d need_e same =
        let v = is_numbered i d need at_d need_d in
        let w = is_numbered j e need at_e need_e in
        let who : v.0.of ≡ w.0.of =
        same_Some v.0.of w.0.of (sym v.2.of ∙ subst (λ k. slice_get ids k ≡ Some w.0.of) (sym same) w.2.of) in
        let one : v.0 ≡ w.0 = v.3 ∙ ap (λ o. a_need o need.0 need.1) who ∙ sym w.3 in
        elim (cases_order i j) [
          | inl here ↦ here
          | inr apart ↦ elim apart [
            | inl less ↦ absurd (two i j v.0 w.0 v.1 w.1 less one)
            | inr more ↦ absurd (two j i w.0 v.0 w.1 v.1 more (sym one))
          ]
        ]
      where
        two : (i j : ℕ) (v w : RequisiteOf) → slice_get stated i ≡ Some v → slice_get stated j ≡ Some w → i < j → v ≢ w
        two i j v w at_v at_w less =
            rw (← get_or_from_slice_get stated i v v at_v, ← get_or_from_slice_get stated j w v at_w)
            (once i j v less (slice_get_within stated j w at_w))

-- the system of what is said
pub said_problem : (s : Said) (flags : List Bool) (p : System) → IsRising s.cands → AllPairs (λ v w. v ≢ w) s.needs
    → ((n : ℕ) (x : Id) → slice_get s.cands n ≡ Some x → IsTrue (holds flags n) ↔ IsEligible s x)
    → length flags ≡ length s.cands
    → HasSystem s.cands s.superseded flags s.needs p
    → IsNumberedForm (IsEligible s) (Needs s) (Serves s.superseded) s.cands p (map need_of s.needs)
said_problem s flags p rising once eligible many has =
    let ids = s.cands in
    let h = has.needs in
    record {
      numbers = is_system ids has.pairs flags s.needs p h many;
      size = h.size;
      eligible = λ n x at. subst (λ l. IsTrue (holds l n) ↔ IsEligible s x) (sym h.eligible) (eligible n x at);
      lengths = length-map s.needs need_of ∙ sym h.needs.lengths;
      needs = λ i d need at_d at_need.
          let w = is_numbered ids has.pairs flags s.needs p h i d need at_d at_need in
          record {
            of = (w.0.of, w.2.of, subst (Contains s.needs) w.3 (contains_at s.needs i w.0 w.1));
            any = λ n y at.
                (subst (λ v. IsNeedFor ids has.pairs v d) w.3 w.2).any s.superseded has.served n y at;
          };
      all = λ n x z kind at need.
          let found = found_at s.needs (a_need x kind z) need in
          let d = numbered_at ids has.pairs flags s.needs p h found.0 (a_need x kind z) found.1 in
          (found.0, d.0, d.1, d.2, one_number ids rising d.0.of n x d.3 at);
      once = needs_once ids has.pairs flags s.needs p h once;
    }
