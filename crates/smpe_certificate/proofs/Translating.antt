-- From the facts by numbers to the certificate by ids.
use Rattle.std.proofs.Common.{◌≡◌, ◌<◌, ℕ, zero, suc, List, [], ◌∷◌, ◌++◌, length, map, filter, Some}
use Rattle.std.proofs.Common.{Contains, refl, sym, ap, ◌∙◌, subst, arith, inl, inr, slice_get, slice_index_or, IsTrue}
use Rattle.std.specs.Prelude.{◌↔◌, All, Any}
use Rattle.std.specs.Option.{option_map}
use Rattle.std.proofs.lemmas.Bool.{cases_Bool}
use Rattle.std.proofs.lemmas.Option.{slice_get_within}
use Rattle.std.proofs.lemmas.Option.{slice_get-get_or, get_or_from_slice_get, same_Some, slice_get-map}
use Rattle.std.proofs.lemmas.List.{length-map}
use Rattle.std.proofs.lemmas.List.Elements.{All-nil, All-cons, All-contains, All-weaker, Contains-append_left}
use Rattle.std.proofs.lemmas.List.Elements.{Contains-append_cases, Contains-push, Contains-push_cases}
use Rattle.terms.specs.Beside.{Beside}
use Rattle.terms.specs.declared.codes.NeedKind.{NeedKind}
use Rattle.terms.specs.declared.codes.Test.{Test}
use Rattle.terms.specs.Types.{Id}
use Rattle.terms.specs.Judging.{Judging}
use Rattle.terms.specs.Kept.{StaysKept}
use Rattle.terms.specs.Failures.{all_tests}
use Rattle.terms.proofs.BesideLists.{beside_there}
use Rattle.terms.proofs.ListMembers.{none_in, in_map, map_in, in_filter, filter_in}
use Rattle.terms.proofs.Places.{contains_at, found_at, at_place, All-found}
use Rattle.solve.specs.System.{System, Need, IsNeed, holds}
use Rattle.solve.proofs.GreatestKept.{greatest_from_kept}
use Rattle.smpe_certificate.specs.declared.elimination.Dropped.{Dropped as Drop}
use Rattle.smpe_certificate.specs.Drops.{IsDrop, IsOut, InOrder, candidates_of}
use Rattle.judge_system.specs.declared.judged.Judged.{Judged}
use Rattle.judge_system.specs.declared.test_set.TestSet.{TestSet}
use Rattle.judge_system.specs.Judged.{IsJudged}
use Rattle.judge_system.specs.Numbered.{need_of}
use Rattle.judge_system.specs.NumberedForm.{IsNumberedForm}
use Rattle.judge_system.specs.TestSets.{tests_of}
use Rattle.judge_system.proofs.CandidateIds.{one_number}
use Rattle.judge_system.proofs.Passing.{all_there}
use Rattle.judge_system.proofs.SystemOfIds.{stays_from_kept, kept_from_stays}
use Rattle.smpe_certificate.specs.declared.facts.IneligibleFact.{IneligibleFact}
use Rattle.smpe_certificate.specs.declared.facts.ServedFact.{ServedFact}
use Rattle.smpe_certificate.specs.Facts.{Dropped, Certificate}
use Rattle.smpe_certificate.specs.Accepted.{DropInOrder, ineligible_ids, dropped_ids}
use Rattle.smpe_certificate.specs.Certificate.{IsCertificate, IsIneligible, IsDropped, IsServed}
use Rattle.smpe_certificate.specs.ByNumber.{IsByNumber, IsIneligibleAt, IsFactOf, IsServedAt}

same_parts : (k l : NeedKind) (y z : Id) → ◌≡◌ {A = NeedKind × Id} (k, y) (l, z) → (k ≡ l) × (y ≡ z)
same_parts k l y z same = (ap (λ (q : NeedKind × Id). q.0) same, ap (λ (q : NeedKind × Id). q.1) same)

module _ (judging : Judging) (j : Judged)
    (is : IsJudged judging.fails judging.eligible judging.needs judging.serves j.ids.keys j)
    (passes : (x : Id) → judging.eligible x ↔ (Contains j.ids.keys x × ((t : Test) → ¬ judging.fails x t)))
    (c : Certificate) (b : IsByNumber j c) where
  abbrev ids : List Id
  ids = j.ids.keys

  -- the candidates are those of the numbers
  abbrev own : Judging
  own = record judging { cands = ids }

  abbrev p : System
  p = j.system

  abbrev needed : List (NeedKind × Id)
  needed = map need_of j.needs.items

  abbrev id_of : ℕ → Id
  id_of m = slice_index_or ids m []

  h : IsNumberedForm judging.eligible judging.needs judging.serves ids p needed
  h = is.numbered

  id_at : (m : ℕ) → m < p.size → slice_get ids m ≡ Some (id_of m)
  id_at m below = slice_get-get_or ids m [] (subst (λ k. m < k) h.size below)

  member_below : (i : ℕ) (d : Need) → slice_get p.needs i ≡ Some d → (m : ℕ) → Contains d.any m → m < p.size
  member_below i d at m there =
      All-contains (λ k. k < p.size) d.any m (All-found (IsNeed p.size) p.needs i d h.numbers.needs at).any there

  -- the row of a candidate has the tests that it fails
  row_is : (n : ℕ) (x : Id) (set : TestSet) → slice_get ids n ≡ Some x → slice_get j.tests.items n ≡ Some set
      → tests_of set ≡ filter (is.fails x) all_tests
  row_is n x set at at_set = same_Some (tests_of set) (filter (is.fails x) all_tests)
      (sym (slice_get-map tests_of j.tests.items n ∙ ap (option_map tests_of) at_set)
      ∙ ap (λ rows. slice_get rows n) is.tests_are
      ∙ slice_get-map (λ y. filter (is.fails y) all_tests) ids n
      ∙ ap (option_map (λ y. filter (is.fails y) all_tests)) at)

  fails_at : (f : IneligibleFact) → IsIneligibleAt ids j.tests.items f → IsIneligible own c.kept f
  fails_at f w =
      let there = contains_at ids w.place f.id w.at in
      let in_row = subst (λ ts. Contains ts f.test) (row_is w.place f.id w.set w.at w.tests) w.test in
      (there, (is.failed f.id f.test there).0 (filter_in (is.fails f.id) all_tests f.test in_row).1)

  all_ineligible : (x : Id) → Contains ids x → (¬ judging.eligible x) → Contains (ineligible_ids c) x
  all_ineligible x there not =
      let place = found_at ids x there in
      let within = slice_get_within ids place.0 x place.1 in
      let rows : length j.tests.items ≡ length ids =
      sym (length-map j.tests.items tests_of) ∙ ap length is.tests_are
      ∙ length-map ids (λ y. filter (is.fails y) all_tests) in
      let set = at_place j.tests.items place.0 (subst (λ n. place.0 < n) (sym rows) within) in
      b.ineligible.all place.0 x set.0 within place.1 set.1 (λ none. not ((passes x).1 (
        there,
        λ t fails.
            none_in t (subst (λ ts. Contains ts t) (sym (row_is place.0 x set.0 place.1 set.1) ∙ none)
            (in_filter (is.fails x) all_tests t (all_there t) ((is.failed x t there).1 fails))),
      )))

  -- an ineligible id is not eligible
  not_eligible : (x : Id) → Contains (ineligible_ids c) x → judging.eligible x → ⊥
  not_eligible x there eligible =
      let f = map_in (λ (g : IneligibleFact). g.id) c.ineligible x there in
      let fails = (fails_at f.0 (All-contains (IsIneligibleAt ids j.tests.items) c.ineligible f.0 b.ineligible.each
      f.1)).1 in
      ((passes x).0 eligible).1 f.0.test (subst (λ y. judging.fails y f.0.test) f.2 fails)

  dropped_is : (out : List ℕ) (d : Drop) (f : Dropped) → IsDrop p out d → IsFactOf j d f → IsDropped own c.kept f
  dropped_is out d f drop fact =
      let need = h.needs d.need drop.need (f.kind, f.needed) drop.at fact.need in
      let at_of = subst (λ n. slice_get ids n ≡ Some need.of.0) drop.of need.of.1 in
      let whose : need.of.0 ≡ f.id = same_Some need.of.0 f.id (sym at_of ∙ fact.id) in
      record {
        eligible = (h.eligible d.candidate f.id fact.id).0 drop.eligible;
        needs = subst (λ x. judging.needs x f.kind f.needed) whose need.of.2;
        servers = λ y. subst (λ ys. Contains ys y ↔ (Contains ids y × judging.serves f.kind y f.needed))
            (sym (fact.servers drop.need drop.at)) (
              λ there.
                  let m = map_in id_of drop.need.any y there in
                  let at : slice_get ids m.0 ≡ Some y =
                  id_at m.0 (member_below d.need drop.need drop.at m.0 m.1) ∙ ap (λ v. Some v) m.2 in
                  (contains_at ids m.0 y at, (need.any m.0 y at).0 m.1),
              λ both.
                  let m = found_at ids y both.0 in
                  subst (Contains (map id_of drop.need.any)) (get_or_from_slice_get ids m.0 y [] m.1)
                  (in_map id_of drop.need.any m.0 ((need.any m.0 y m.1).1 both.1)),
            );
      }

  -- what serves the need of a dropped one is out
  servers_out : (out : List ℕ) (outs : List Id) (d : Drop) (f : Dropped) → IsDrop p out d → IsFactOf j d f
      → ((m : ℕ) (y : Id) → slice_get ids m ≡ Some y → IsOut p out m → Contains outs y)
      → (y : Id) → Contains f.servers y → Contains outs y
  servers_out out outs d f drop fact into y there =
      let m = map_in id_of drop.need.any y (subst (λ ys. Contains ys y) (fact.servers drop.need drop.at) there) in
      into m.0 y (id_at m.0 (member_below d.need drop.need drop.at m.0 m.1) ∙ ap (λ v. Some v) m.2)
      (All-contains (IsOut p out) drop.need.any m.0 drop.unserved m.1)

  -- the facts of the dropped ones, in their order
  in_order : (out : List ℕ) (outs : List Id) (ds : List Drop) (fs : List Dropped)
      → ((m : ℕ) (y : Id) → slice_get ids m ≡ Some y → IsOut p out m → Contains outs y)
      → ((y : Id) (m : ℕ) → slice_get ids m ≡ Some y → IsTrue (holds p.eligible m) → Contains outs y
      → Contains out m)
      → InOrder p out ds → Beside (λ n d f. IsFactOf j d f) ds fs
      → All (IsDropped own c.kept) fs × DropInOrder (λ f y. Contains f.servers y) outs fs
  in_order out outs [] [] into from order beside = (All-nil (IsDropped own c.kept), tt)
  in_order out outs [] (f ∷ fs) into from order beside = absurd (omega (arith, beside.lengths))
  in_order out outs (d ∷ ds) [] into from order beside = absurd (omega (arith, beside.lengths))
  in_order out outs (d ∷ ds) (f ∷ fs) into from order beside =
      let drop : IsDrop p out d = order.0 in
      let fact : IsFactOf j d f = beside.each zero d f refl refl in
      let rest = in_order (out ++ d.candidate ∷ []) (outs ++ f.id ∷ []) ds fs
      (λ m y at is_out. elim is_out [
        | inl not ↦ Contains-append_left outs (f.id ∷ []) y (into m y at (inl not))
        | inr there ↦ elim (Contains-push_cases out d.candidate m there) [
          | inl was ↦ Contains-append_left outs (f.id ∷ []) y (into m y at (inr was))
          | inr same ↦ subst (Contains (outs ++ f.id ∷ []))
              (same_Some f.id y (sym fact.id ∙ ap (slice_get ids) same ∙ at)) (Contains-push outs f.id)
        ]
      ])
      (λ y m at eligible there. elim (Contains-push_cases outs f.id y there) [
        | inl was ↦ Contains-append_left out (d.candidate ∷ []) m (from y m at eligible was)
        | inr same ↦ subst (Contains (out ++ d.candidate ∷ []))
            (one_number ids is.rising d.candidate m y (fact.id ∙ ap (λ v. Some v) same) at)
            (Contains-push out d.candidate)
      ])
      order.1
      (record { lengths = omega (arith, beside.lengths); each = λ n x y e g. beside.each (suc n) x y e g }) in (
        All-cons (IsDropped own c.kept) f fs (dropped_is out d f drop fact) rest.0,
        (
          (λ there. drop.fresh (from f.id d.candidate fact.id drop.eligible there)),
          servers_out out outs d f drop fact into,
          rest.1,
        ),
      )

  ordered : All (IsDropped own c.kept) c.dropped
      × DropInOrder (λ f y. Contains f.servers y) (ineligible_ids c) c.dropped
  ordered = in_order [] (ineligible_ids c) b.drops c.dropped
      (λ m y at is_out. elim is_out [
        | inl not ↦ all_ineligible y (contains_at ids m y at) (λ eligible. absurd
            (let may = (h.eligible m y at).1 eligible in cc (may, not)))
        | inr there ↦ absurd (none_in m there)
      ])
      (λ y m at eligible there. absurd (not_eligible y there ((h.eligible m y at).0 eligible)))
      b.eliminates.in_order b.dropped

  dropped_number : (x : Id) → Contains (dropped_ids c) x
      → (m : ℕ) × (slice_get ids m ≡ Some x) × Contains (candidates_of b.drops) m
  dropped_number x there =
      let f = map_in (λ (g : Dropped). g.id) c.dropped x there in
      let k = found_at c.dropped f.0 f.1 in
      let d = at_place b.drops k.0
      (subst (λ n. k.0 < n) b.dropped.lengths (slice_get_within c.dropped k.0 f.0 k.1)) in
      let fact = b.dropped.each k.0 d.0 f.0 d.1 k.1 in (
        d.0.candidate,
        fact.id ∙ ap (λ v. Some v) f.2,
        in_map (λ (e : Drop). e.candidate) b.drops d.0 (contains_at b.drops k.0 d.0 d.1),
      )

  dropped_there : (m : ℕ) (x : Id) → slice_get ids m ≡ Some x → Contains (candidates_of b.drops) m
      → Contains (dropped_ids c) x
  dropped_there m x at there =
      let d = map_in (λ (e : Drop). e.candidate) b.drops m there in
      let k = found_at b.drops d.0 d.1 in
      let f = beside_there b.drops c.dropped b.dropped.lengths k.0 d.0 k.1 in
      let fact = b.dropped.each k.0 d.0 f.0 k.1 f.1 in
      subst (Contains (dropped_ids c)) (same_Some f.0.id x (sym fact.id ∙ ap (slice_get ids) d.2 ∙ at))
      (in_map (λ (g : Dropped). g.id) c.dropped f.0 (contains_at c.dropped k.0 f.0 f.1))

  apart : (x : Id) → Contains c.kept x → ¬ Contains (ineligible_ids c ++ dropped_ids c) x
  apart x inside there =
      let w = (b.kept x).0 inside in
      let u = (b.eliminates.are_kept.members w.0).0 w.2 in
      elim (Contains-append_cases (ineligible_ids c) (dropped_ids c) x there) [
        | inl bad ↦ not_eligible x bad ((h.eligible w.0 x w.1).0 (u.1.eligible w.0 u.2))
        | inr dropped ↦
            let m = dropped_number x dropped in
            let same = one_number ids is.rising w.0 m.0 x w.1 m.1 in
            let off = ((b.eliminates.members m.0).0 m.2).1 in
            absurd (cc (w.2, ap (holds b.flags) same, off))
      ]

  all_dropped : (x : Id) → judging.eligible x → (¬ Contains c.kept x) → Contains (dropped_ids c) x
  all_dropped x eligible not =
      let place = found_at ids x (is.within x eligible) in
      elim (cases_Bool (holds b.flags place.0)) [
        | inl on ↦ absurd (not ((b.kept x).1 (place.0, place.1, on)))
        | inr off ↦ dropped_there place.0 x place.1
            ((b.eliminates.members place.0).1 ((h.eligible place.0 x place.1).1 eligible, off))
      ]

  served_is : (f : ServedFact) → (place : ℕ) × IsServedAt j b.flags place f → IsServed own c.kept f
  served_is f w =
      let s = w.1 in
      let need = h.needs w.0 s.need (f.kind, f.needed) s.at s.stated in
      let whose : need.of.0 ≡ f.id = same_Some need.of.0 f.id (sym need.of.1 ∙ s.id) in
      record {
        of_kept = (b.kept f.id).1 (s.need.of, s.id, s.kept);
        needs = subst (λ x. judging.needs x f.kind f.needed) whose need.of.2;
        by_kept = (b.kept f.by).1 (s.server, s.by, s.server_kept);
        cand = contains_at ids s.server f.by s.by;
        serves = (need.any s.server f.by s.by).0 s.serves;
      }

  all_served : (x z : Id) (kind : NeedKind) → Contains c.kept x → judging.needs x kind z
      → (f : ServedFact) × Contains c.served f × (f.id ≡ x) × (f.kind ≡ kind) × (f.needed ≡ z)
  all_served x z kind inside needs =
      let w = (b.kept x).0 inside in
      let a = h.all w.0 x z kind w.1 needs in
      let on : IsTrue (holds b.flags a.1.of) = subst (λ m. IsTrue (holds b.flags m)) (sym a.4) w.2 in
      let g = greatest_from_kept p b.flags b.eliminates.are_kept in
      let some = All-found (λ e. IsTrue (holds b.flags e.of) → Any (λ y. IsTrue (holds b.flags y)) e.any) p.needs
      a.0 a.1 g.self_supporting.served a.2 on in
      let s = b.served.all a.0 a.1 (slice_get_within p.needs a.0 a.1 a.2) a.2 on some in
      let one : s.2.need ≡ a.1 = same_Some s.2.need a.1 (sym s.2.at ∙ a.2) in
      let parts = same_parts s.0.kind kind s.0.needed z
      (same_Some (s.0.kind, s.0.needed) (kind, z) (sym s.2.stated ∙ a.3)) in (
        s.0,
        s.1,
        same_Some s.0.id x
            (sym s.2.id ∙ ap (λ (e : Need). slice_get ids e.of) one ∙ ap (slice_get ids) a.4 ∙ w.1),
        parts.0,
        parts.1,
      )

  pub certificate_is : IsCertificate own c.kept c
  certificate_is = record {
    ineligible = All-weaker (IsIneligibleAt ids j.tests.items) (IsIneligible own c.kept) fails_at c.ineligible
        b.ineligible.each;
    dropped = ordered.0;
    kept_are = refl;
    served = All-weaker (λ f. (place : ℕ) × IsServedAt j b.flags place f) (IsServed own c.kept) served_is c.served
        b.served.each;
    all_ineligible = all_ineligible;
    all_dropped = all_dropped;
    all_served = all_served;
    in_order = ordered.1;
    apart = apart;
  }

  pub kept_stays : (x : Id) → Contains c.kept x ↔ StaysKept own x
  kept_stays x = (
    λ there.
        let w = (b.kept x).0 there in
        stays_from_kept own p needed h w.0 x w.1 ((b.eliminates.are_kept.members w.0).0 w.2),
    λ stays.
        let place = found_at ids x (is.within x (stays.1.eligible x stays.2)) in
        let on = (b.eliminates.are_kept.members place.0).1 (kept_from_stays own p needed h is.within place.0 x place.1
        stays) in
        (b.kept x).1 (place.0, place.1, on),
  )
