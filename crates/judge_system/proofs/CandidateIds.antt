-- From the numbers of candidates to their ids: who is kept, and why each other one is not.
use Rattle.std.proofs.Common.{◌≡◌, inl, inr, ℕ, ◌<◌, Bool, true, false, not, List, [], ◌∷◌, length, map, filter, Some}
use Rattle.std.proofs.Common.{IsTrue}
use Rattle.std.proofs.Common.{Contains, refl, sym, ap, ◌∙◌, subst, true≢false, arith, slice_get, slice_index_or, get_or}
use Rattle.std.proofs.Common.{take_all}
use Rattle.std.specs.Prelude.{All, AllPairs, Vec, ◌↔◌, ◌==◌}
use Rattle.std.specs.List.{list_any}
use Rattle.std.specs.Option.{option_map}
use Rattle.std.specs.declared.alloc.Global.{Global as Heap}
use Rattle.std.specs.Ordering.{is_lt}
use Rattle.std.proofs.lemmas.Cmp.{nat_list_cmp_total, tied_itself}
use Rattle.std.proofs.lemmas.Bool.{cases_order, and_parts, and_from, eqb-true, eq-eqb, false_from_ne_true, not-true}
use Rattle.std.proofs.lemmas.Option.{slice_get_within, slice_get-get_or, get_or_from_slice_get, same_Some}
use Rattle.std.proofs.lemmas.Option.{slice_get-map}
use Rattle.std.proofs.lemmas.List.{length-map}
use Rattle.std.proofs.lemmas.List.Folds.{list_any_none}
use Rattle.std.proofs.lemmas.List.Elements.{All-map, All-weaker, Contains-get_or}
use Rattle.terms.specs.declared.codes.NeedKind.{NeedKind}
use Rattle.terms.specs.declared.codes.Test.{Test}
use Rattle.terms.specs.Types.{Id}
use Rattle.terms.specs.Judging.{Judging}
use Rattle.terms.specs.Kept.{StaysKept}
use Rattle.terms.specs.Lookups.{IsRising, is_before, is_in}
use Rattle.solve.specs.System.{Need, System, IsNeed, AreKept, holds}
use Rattle.judge_system.specs.NumberedForm.{IsNumberedForm}
use Rattle.solve.specs.Causes as numbered
use Rattle.terms.specs.Failures.{IsOpenNeed, IsCauser, all_tests}
use Rattle.terms.proofs.ListMembers.{in_map, map_in}
use Rattle.terms.proofs.Pairs.{pairs_map}
use Rattle.judge_system.proofs.SystemOfIds.{IsFormOf, stays_from_kept, kept_from_stays}
use Rattle.terms.proofs.Places.{All-found, contains_at, found_at}
use Rattle.judge_system.proofs.NumberedCauses.{causer_id, causer_number}
use Rattle.solve.specs.Rows.{row_at}
use Rattle.terms.proofs.Searches.{All_from_no_list_any}
use Rattle.machine.specs.Outcome as machine
use Rattle.machine.specs.Installing.{IsFailure}
use Rattle.judge_system.specs.declared.failure.Failure.{Failure}
use Rattle.judge_system.specs.Views.{failure_view, why_failed}
use Rattle.judge_system.specs.declared.judged.Judged.{Judged}
use Rattle.judge_system.specs.Numbered.{need_of}
use Rattle.judge_system.specs.Decided.{AreDecided}
use Rattle.judge_system.specs.ByNumber.{IsDecidedBy}
use Rattle.judge_system.specs.Judged.{IsJudged}
use Rattle.judge_system.specs.Open.{HaveOpen}
use Rattle.judge_system.specs.Findings.{IsFailureAt, IsFailed}
use Rattle.judge_system.specs.TestSets.{tests_of}

-- an id is not before itself
not_before_itself : (x : Id) → is_before x x ≡ true → ⊥
not_before_itself x before = true≢false (sym before ∙ ap is_lt (tied_itself nat_list_cmp_total x))

before_at : (ids : List Id) → IsRising ids → (n m : ℕ) (x : Id) → slice_get ids n ≡ Some x → slice_get ids m ≡ Some x
    → n < m → ⊥
before_at ids rising n m x at_n at_m less =
    let first : get_or ids n x ≡ x = get_or_from_slice_get ids n x x at_n in
    let second : get_or ids m x ≡ x = get_or_from_slice_get ids m x x at_m in
    not_before_itself x
    (subst (λ v. is_before x v ≡ true) second (subst (λ v. is_before v (get_or ids m x) ≡ true) first
    (rising n m x less (slice_get_within ids m x at_m))))

-- each id has one number
pub one_number : (ids : List Id) → IsRising ids → (n m : ℕ) (x : Id) → slice_get ids n ≡ Some x
    → slice_get ids m ≡ Some x → n ≡ m
one_number ids rising n m x at_n at_m = elim (cases_order n m) [
  | inl same ↦ same
  | inr apart ↦ elim apart [
    | inl less ↦ absurd (before_at ids rising n m x at_n at_m less)
    | inr more ↦ absurd (before_at ids rising m n x at_m at_n more)
  ]
]

-- ids at places that rise, rise
pub rising_at : (ids : List Id) (places : List ℕ) → IsRising ids → AllPairs (λ a b. a < b) places
    → All (λ m. m < length ids) places
    → IsRising (map (λ m. slice_index_or ids m []) places)
rising_at ids places rising up within =
    pairs_map (λ a b. (a < b) × (b < length ids)) (λ x y. IsTrue (is_before x y)) (λ m. slice_index_or ids m [])
    (λ a b both. rising a b [] both.0 both.1) places
    (λ i j d less below. (up i j d less below, within j d below))

module _ (judging : Judging) (kept : List Id) (p : System) (needed : List (NeedKind × Id))
    (h : IsFormOf judging p needed)
    (rising : IsRising judging.cands) (flags : List Bool)
    (members : (x : Id) → Contains kept x
    ↔ ((n : ℕ) × (slice_get judging.cands n ≡ Some x) × IsTrue (holds flags n))) where
  abbrev cand_ids : List Id
  cand_ids = judging.cands

  same : (n : ℕ) (x : Id) → slice_get cand_ids n ≡ Some x → Contains kept x ↔ IsTrue (holds flags n)
  same n x at = (
    λ there.
        let w = (members x).0 there in
        subst (λ k. IsTrue (holds flags k)) (one_number cand_ids rising w.0 n x w.1 at) w.2,
    λ on. (members x).1 (n, at, on),
  )

  within : (y : Id) → Contains kept y → Contains cand_ids y
  within y there = let w = (members y).0 there in contains_at cand_ids w.0 y w.1

  once : (n m : ℕ) (x : Id) → slice_get cand_ids n ≡ Some x → slice_get cand_ids m ≡ Some x → n ≡ m
  once = one_number cand_ids rising

  -- the id of each number that serves
  id_of : (d : Need) (i : ℕ) → slice_get p.needs i ≡ Some d → (m : ℕ) → Contains d.any m
      → (y : Id) × (slice_get cand_ids m ≡ Some y)
  id_of d i at m there =
      let found = found_at d.any m there in
      let below = All-found (λ k. k < p.size) d.any found.0 m
      (All-found (IsNeed p.size) p.needs i d h.numbers.needs at).any found.1 in
      (slice_index_or cand_ids m [], slice_get-get_or cand_ids m [] (subst (λ k. m < k) h.size below))

  unserved_id : (d : Need) (i : ℕ) (kind : NeedKind) (z : Id) → slice_get p.needs i ≡ Some d
      → slice_get needed i ≡ Some (kind, z)
      → list_any (holds flags) d.any ≡ false → (y : Id) → Contains kept y → ¬ judging.serves kind y z
  unserved_id d i kind z at need none y there serves =
      let place = found_at cand_ids y (within y there) in
      let spot = found_at d.any place.0 (((h.needs i d (kind, z) at need).any place.0 y place.1).1 serves) in
      let off = All-found (λ j. holds flags j ≡ false) d.any spot.0 place.0
      (All_from_no_list_any (holds flags) d.any none) spot.1 in
      true≢false (sym ((same place.0 y place.1).0 there) ∙ off)

  unserved_number : (d : Need) (i : ℕ) (kind : NeedKind) (z : Id) → slice_get p.needs i ≡ Some d
      → slice_get needed i ≡ Some (kind, z)
      → ((y : Id) → Contains kept y → ¬ judging.serves kind y z) → list_any (holds flags) d.any ≡ false
  unserved_number d i kind z at need unserved =
      list_any_none (holds flags) d.any (λ k m below.
      let v = slice_index_or d.any k m in
      let there : Contains d.any v = contains_at d.any k v (slice_get-get_or d.any k m below) in
      let y = id_of d i at v there in
      false_from_ne_true (holds flags v) (λ on. unserved y.0 ((same v y.0 y.1).1 on)
      (((h.needs i d (kind, z) at need).any v y.0 y.1).0 there)))

  module _ (rows : List (Vec (NeedKind × Id) Heap)) (opened :
      HaveOpen flags p.needs needed (length needed) rows) where
    -- the open needs of a number are those of its id
    pub open_needs : (n : ℕ) (x : Id) → slice_get cand_ids n ≡ Some x → (kind : NeedKind) (z : Id)
        → Contains (row_at rows n) (kind, z) ↔ IsOpenNeed judging kept x kind z
    open_needs n x at kind z = (
      λ there.
          let w = (opened n (kind, z)).0 there in
          let both = and_parts (w.1.of == n) (not (list_any (holds flags) w.1.any)) w.5 in
          let meant = (h.needs w.0 w.1 (kind, z) w.3 w.4).of in
          let whose : meant.0 ≡ x = same_Some meant.0 x (sym meant.1
          ∙ ap (slice_get cand_ids) (eqb-true w.1.of n both.0) ∙ at) in
          record {
            needs = subst (λ v. judging.needs v kind z) whose meant.2;
            unserved = unserved_id w.1 w.0 kind z w.3 w.4 (not-true (list_any (holds flags) w.1.any) both.1);
          },
      λ need.
          let a = h.all n x z kind at need.needs in
          let none = unserved_number a.1 a.0 kind z a.2 a.3 need.unserved in
          (opened n (kind, z)).1 (
            a.0,
            a.1,
            slice_get_within needed a.0 (kind, z) a.3,
            a.2,
            a.3,
            and_from (a.1.of == n) (not (list_any (holds flags) a.1.any)) (eq-eqb a.1.of n a.4) (ap not none),
          ),
    )

  module _ (rows : List (Vec ℕ Heap)) (exact : (x y : ℕ) → Contains (row_at rows x) y ↔ numbered.IsCauser p flags x
      y) where
    -- the causers of a number are those of its id
    pub causers_are_holds : (n : ℕ) (x : Id) → slice_get cand_ids n ≡ Some x → (y : Id)
        → Contains (map (λ m. slice_index_or cand_ids m []) (row_at rows n)) y ↔ IsCauser judging kept x y
    causers_are_holds n x at y = (
      λ there.
          let w = map_in (λ m. slice_index_or cand_ids m []) (row_at rows n) y there in
          let causer = (exact n w.0).0 w.1 in
          let below : w.0 < length cand_ids = subst (λ k. w.0 < k) h.size causer.0.0.0 in
          let at_y : slice_get cand_ids w.0 ≡ Some y =
          slice_get-get_or cand_ids w.0 [] below ∙ ap (λ v. Some v) w.2 in
          causer_id judging kept p needed h flags same within n w.0 x y at at_y causer,
      λ causer.
          let m = found_at cand_ids y causer.root.failed.cand in
          let number = causer_number judging kept p needed h flags same within once n m.0 x y at m.1 causer in
          let there = in_map (λ m. slice_index_or cand_ids m []) (row_at rows n) m.0 ((exact n m.0).1 number) in
          subst (Contains (map (λ m. slice_index_or cand_ids m []) (row_at rows n)))
          (get_or_from_slice_get cand_ids m.0 y [] m.1) there,
    )

-- causers are candidates
pub causers_within : (p : System) (flags : List Bool) (rows : List (Vec ℕ Heap))
    → ((x y : ℕ) → Contains (row_at rows x) y ↔ numbered.IsCauser p flags x y) → (n : ℕ)
    → All (λ m. m < p.size) (row_at rows n)
causers_within p flags rows exact n k d below = ((exact n (get_or (row_at rows n) k d)).0
    (Contains-get_or (row_at rows n) k d below)).0.0.0

-- What is found of the candidates by their numbers is so by the command's own tests, needs, and what serves a need.
module _ (judging : Judging) (j : Judged)
    (is : IsJudged judging.fails judging.eligible judging.needs judging.serves j.ids.keys j) (flags : List Bool)
    (are_kept : AreKept j.system flags) (kept : List Id) (failed : List (Id × Failure))
    (by : IsDecidedBy j flags kept failed) where
  abbrev ids : List Id
  ids = j.ids.keys

  -- the candidates are those of the numbers
  abbrev own : Judging
  own = record judging { cands = ids }

  abbrev p : System
  p = j.system

  abbrev needed : List (NeedKind × Id)
  needed = map need_of j.needs.items

  h : IsNumberedForm judging.eligible judging.needs judging.serves ids p needed
  h = is.numbered

  stays : (x : Id) → Contains kept x ↔ StaysKept own x
  stays x = (
    λ there.
        let w = (by.members x).0 there in
        stays_from_kept own p needed h w.0 x w.1 ((are_kept.members w.0).0 w.2),
    λ stays.
        let place = found_at ids x (is.within x (stays.1.eligible x stays.2)) in
        let on = (are_kept.members place.0).1 (kept_from_stays own p needed h is.within place.0 x place.1 stays) in
        (by.members x).1 (place.0, place.1, on),
  )

  opened : HaveOpen flags p.needs needed (length needed) by.found.unserved.now
  opened = subst (λ e. HaveOpen flags p.needs needed e by.found.unserved.now) (sym (length-map j.needs.items need_of))
      by.opened

  failure : (n : ℕ) (x : Id) (f : machine.Failure) → slice_get ids n ≡ Some x → IsFailureAt ids by.found n f
      → IsFailure own kept x f
  failure n x f at told = record {
    fails = is.fails x;
    tests = told.tests_are
        ∙ get_or_from_slice_get (map tests_of by.found.tests.now) n (filter (is.fails x) all_tests) []
        (ap (λ rows. slice_get rows n) (ap (map tests_of) by.tests_are ∙ is.tests_are)
        ∙ slice_get-map (λ y. filter (is.fails y) all_tests) ids n
        ∙ ap (option_map (λ y. filter (is.fails y) all_tests)) at);
    failed = λ t. is.failed x t (contains_at ids n x at);
    ids_of = told.needs.ids_of;
    needs = told.needs.needs_are;
    ids_rising = λ kind. (told.needs.are_ids kind).rising;
    are_open = λ kind z.
        let told_of = (told.needs.are_ids kind).members z in
        let same = open_needs own kept p needed h is.rising flags by.members by.found.unserved.now opened n x at
        kind z in
        (λ there. same.0 (told_of.0 there), λ need. told_of.1 (same.1 need));
    causers_rising = subst IsRising (sym told.causers_are) (rising_at ids (row_at by.found.causers.now n) is.rising
        (by.causers.rising n) (subst (λ size. All (λ m. m < size) (row_at by.found.causers.now n)) h.size
        (causers_within p flags by.found.causers.now by.causers.exact n)));
    causers = λ y. subst (λ l. Contains l y ↔ IsCauser own kept x y) (sym told.causers_are)
        (causers_are_holds own kept p needed h is.rising flags by.members by.found.causers.now by.causers.exact n
        x at y);
  }

  abbrev Fits : Id × machine.Failure → Type 0
  Fits q = IsFailure own kept q.0 q.1

  pub decided : AreDecided own kept (map why_failed failed)
  decided = record {
    rising = by.rising;
    members = stays;
    ids = ids_of_holds failed ∙ by.failures.ids_are ∙ ap (filter (λ x. not (is_in kept x)))
        (take_all (length ids) ids (omega arith));
    failures = All-map Fits (λ f. (f.0, failure_view f.1)) failed
        (All-weaker (IsFailed ids by.found) (λ f. Fits (f.0, failure_view f.1))
        (λ f told. failure told.0 f.0 (failure_view f.1) told.1 told.2) failed by.failures.each);
  }
    where
      ids_of_holds : (fs : List (Id × Failure)) → map (λ (q : Id × machine.Failure). q.0)
          (map (λ f. (f.0, failure_view f.1)) fs) ≡ map (λ q. q.0) fs
      ids_of_holds [] = refl
      ids_of_holds (f ∷ fs) = ap (λ l. f.0 ∷ l) (ids_of_holds fs)
