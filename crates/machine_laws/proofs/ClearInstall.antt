-- An APPLY of an id alone, whose facts are clear.
use Rattle.std.proofs.Common.{◌≡◌, ◌∙◌, ◌||◌, Bool, true, false, not, List, [], ◌∷◌, None, Some}
use Rattle.std.proofs.Common.{map, filter, length, inl, inr, refl, sym, ap, ap₂, subst, true≢false, arith}
use Rattle.std.specs.Prelude.{Contains}
use Rattle.std.specs.Ordering.{is_lt, nat_cmp}
use Rattle.std.specs.Cmp.Lexicographic.{slice_cmp}
use Rattle.std.proofs.lemmas.Bool.{and_parts}
use Rattle.std.proofs.lemmas.Cmp.{nat_list_cmp_total, tied_itself}
use Rattle.terms.proofs.ListMembers.{here, here_or, none_in}
use Rattle.terms.proofs.TextOrder.{same_itself}
use Rattle.terms.specs.declared.kinds.ZoneKind.TheVariants.{Target}
use Rattle.terms.specs.declared.codes.Test.{Test}
use Rattle.terms.specs.declared.codes.Test.TheVariants.{HeldBySystem, HeldByUser, ForbiddenByNpre, OwnedByAnother}
use Rattle.terms.specs.declared.codes.Test.TheVariants.{Regression, NothingToUpdate, NotInTarget, ChainDeleted}
use Rattle.terms.specs.declared.codes.Test.TheVariants.{InClash, AlreadyAccepted, HasDelete, OtherLevel, SeveralFit}
use Rattle.terms.specs.declared.not_chosen.NotChosen.{NotChosen}
use Rattle.terms.specs.Types.{Text, Id, Hold, Global, Zone}
use Rattle.terms.specs.Lookups.{IsRising, is_nil, is_in}
use Rattle.terms.specs.Choice.{vers_of, fits, del_of}
use Rattle.terms.specs.CommandForms.{no_bypass}
use Rattle.terms.specs.Deleted.{is_deleted}
use Rattle.terms.specs.Candidates.{is_open, is_mass_chosen, is_start, IsCandidate, not_chosen}
use Rattle.terms.specs.Tests.{Setting, FailsAlone, PassesAlone, Survives, AreSurvivors, IsEligible, is_bypassed_hold}
use Rattle.terms.specs.Needs.{Needs, Serves, asked, is_met, zone_left}
use Rattle.terms.specs.Kept.{SupportsItself}
use Rattle.terms.specs.Judged.{setting, install_judging, Stays, IsKeptSet}
use Rattle.terms.specs.Install.{TakesEffect}
use Rattle.report.specs.Facts.{Fact, AreFacts, alone}
use Rattle.terms.proofs.Ids.{Contains_from_is_in, is_in_from_Contains}
use Rattle.machine.specs.Outcome.{Status, Applied, Line, StatusLine}
use Rattle.machine.specs.Receiving.{place_of}
use Rattle.machine.specs.Installing.{InstallsSelected, Decision, HasStatus, IsInstalled}
use Rattle.machine.specs.Installing.{IsSuperseded, IsFailed, IsNotChosen}
use Rattle.machine.specs.Installing.{installed_status}
use Rattle.machine_laws.specs.Clear.{AreClear, only}
use Rattle.machine_laws.proofs.ClearFacts.{stands, one_fits, no_system, no_user, met, changed, updates_there}
use Rattle.machine_laws.proofs.ClearFacts.{not_deleted, names_none, none_forbids}

never : {A : Type 0} → false ≡ true → A
never e = absurd (true≢false (sym e))

-- the one member of a list
in_one : (x y : Id) → Contains (x ∷ []) y → y ≡ x
in_one x y is = elim (here_or x [] y is) [ inl same ↦ sym same | inr later ↦ absurd (none_in y later) ]

is_one : (x y : Id) → is_in (x ∷ []) y ≡ true → y ≡ x
is_one x y is = in_one x y (Contains_from_is_in (x ∷ []) y is)

-- a rising list that has this one member
lone : (x : Id) (xs : List Id) → IsRising xs → Contains xs x → ((y : Id) → Contains xs y → y ≡ x) → xs ≡ x ∷ []
lone x [] rising has all = absurd (none_in x has)
lone x (a ∷ []) rising has all = ap (λ y. y ∷ []) (all a (here a []))
lone x (a ∷ b ∷ rest) rising has all =
    let first = all a (0, omega arith, refl) in
    let second = all b (1, omega arith, refl) in
    let below : is_lt (slice_cmp nat_cmp x x) ≡ true =
    subst (λ v. is_lt (slice_cmp nat_cmp x v) ≡ true) second
    (subst (λ v. is_lt (slice_cmp nat_cmp v b) ≡ true) first (rising 0 1 a (omega arith) (omega arith))) in
    never (sym (ap is_lt (tied_itself nat_list_cmp_total x)) ∙ below)

-- a list of which one passes has members
some_there : {X : Type 0} (p : X → Bool) (xs : List X) → length (filter p xs) ≡ 1 → is_nil xs ≡ false
some_there p [] one = absurd (omega (arith, one))
some_there p (x ∷ xs) one = refl

-- no reason is printed of what is open
open_unnamed : (g : Global) (zone : Zone) (x : Id) → is_open g zone (only x) x ≡ true
    → not_chosen g zone (only x) x ≡ None
unfolding not_chosen
open_unnamed g zone x opened = rw (same_itself x, opened) refl

-- nor of what is not named
named_alone : (g : Global) (zone : Zone) (x y : Id) (why : NotChosen) → not_chosen g zone (only x) y ≡ Some why → y ≡ x
unfolding not_chosen
named_alone g zone x y why is = by (is_in (x ∷ []) y) refl
  where
    by : (b : Bool) → is_in (x ∷ []) y ≡ b → y ≡ x
    by true e = is_one x y e
    by false e = absurd (let gone = rw e at is in cc gone)

module _ (g : Global) (zone : Zone) (x : Id) (facts : List Fact) (target : zone.kind ≡ Target)
    (are : AreFacts (alone g zone x) x facts) (clear : AreClear facts) where
  abbrev s : Setting
  s = alone g zone x

  opened : is_open g zone (only x) x ≡ true
  opened =
      let it = stands g zone x facts are clear in
      let vers = some_there (fits zone (is_in (x ∷ []))) (vers_of g zone.srel x) (one_fits g zone x facts are clear) in
      rw (vers, it.0, it.1, it.2) refl

  -- ---- the candidates

  candidate : IsCandidate g zone (only x) x
  candidate cands growing pair = pair.start x (rw (opened, same_itself x) refl)

  starts_alone : (z : Id) → is_start g zone (only x) z ≡ true → is_in (x ∷ []) z ≡ true
  starts_alone z starts = by (is_in (x ∷ []) z) refl
    where
      named : (is_in (x ∷ []) z || is_in [] z || is_mass_chosen g zone (only x) z) ≡ true
      named = (and_parts (is_open g zone (only x) z) _ starts).1

      by : (b : Bool) → is_in (x ∷ []) z ≡ b → is_in (x ∷ []) z ≡ true
      by true e = e
      by false e = never (subst (λ b. (b || is_in [] z || is_mass_chosen g zone (only x) z) ≡ true) e named)

  candidate_alone : (y : Id) → IsCandidate g zone (only x) y → y ≡ x
  candidate_alone y is = is_one x y (is (is_in (x ∷ [])) (λ z. false) (record {
    start = starts_alone;
    growing_start = λ z starts. never (and_parts (is_start g zone (only x) z) false starts).1;
    part = λ z e. never e;
    only_open = λ z e. never e;
    grown = λ z w e brings. never e;
  }))

  -- ---- the tests

  no_failure : (test : Test) → FailsAlone s x test → ⊥
  no_failure HeldBySystem fails = fails (ap (filter (λ (h : Hold). not (is_bypassed_hold no_bypass h)))
      (no_system g zone x facts are clear))
  no_failure HeldByUser fails = fails (ap (filter (λ (h : Hold). not (is_bypassed_hold no_bypass h)))
      (no_user g zone x facts are clear))
  no_failure ForbiddenByNpre (y, applied, either) = elim either [
    | inl names ↦ names_none g zone x facts are clear y applied names
    | inr forbids ↦ none_forbids g zone x facts are clear y applied forbids.0 forbids.1
  ]
  no_failure OwnedByAnother (e, (type, name, has, there), apart) = apart
      (changed g zone x facts are clear type name e has there).0
  no_failure Regression (strict, (e, z, (type, name, has, there), within, below)) =
      below ((changed g zone x facts are clear type name e has there).1 z within)
  no_failure NothingToUpdate
      (type, name, has, absent, base) = updates_there g zone x facts are clear type name has absent
  no_failure NotInTarget (kind, strict, off) = absurd (cc (target, kind))
  no_failure ChainDeleted fails = fails
  no_failure InClash fails = fails
  no_failure AlreadyAccepted fails = fails
  no_failure HasDelete fails = fails
  no_failure OtherLevel fails = fails
  no_failure SeveralFit fails = let one = one_fits g zone x facts are clear in absurd (omega (arith, one, fails))

  passes : PassesAlone s x
  passes = (here x [], no_failure)

  survives : Survives s x
  survives = (
    passes,
    λ (passed, (y, other, deleted)). not_deleted g zone x facts are clear
        (subst (λ w. is_deleted g s.choice (del_of s.choice w) x ≡ true) (in_one x y other.0) deleted),
  )

  survivors_are : (ids : List Id) → AreSurvivors s ids → ids ≡ x ∷ []
  survivors_are ids of = lone x ids of.rising ((of.members x).1 survives) (λ y is. in_one x y ((of.members y).0 is).0.0)

  eligible : IsEligible s x
  eligible = (survives, λ (survived, (y, other, apart, clash)). apart (sym (in_one x y other.0.0)))

  -- ---- the kept set

  supports : (survivors : List Id) → survivors ≡ x ∷ []
      → SupportsItself (install_judging s survivors) (is_in (x ∷ []))
  supports survivors same = record {
    eligible = λ y is. subst (IsEligible s) (sym (is_one x y is)) eligible;
    served = λ y z kind is needs.
        let asks : Contains (asked s (x ∷ []) x kind) z =
        subst (λ ids. Contains (asked s ids x kind) z) same
        (subst (λ w. Contains (asked s survivors w kind) z) (is_one x y is) needs.asks) in
        let unmet : is_met (zone_left s (x ∷ [])) kind z ≡ false =
        subst (λ ids. is_met (zone_left s ids) kind z ≡ false) same needs.not_met in
        absurd (true≢false (sym (met g zone x facts are clear kind z asks) ∙ unmet));
  }

  stays : (survivors : List Id) → AreSurvivors s survivors → Stays s survivors x
  stays survivors of =
      (is_in (x ∷ []), supports survivors (survivors_are survivors of), is_in_from_Contains (x ∷ []) x (here x []))

  kept_are : (kept : List Id) → IsKeptSet s kept → kept ≡ x ∷ []
  kept_are kept is = lone x kept is.rising ((is.members x).1 (stays is.survivors is.are_survivors))
      (λ y there. let set = (is.members y).0 there in in_one x y (set.1.eligible y set.2).0.0.0)

  -- ---- the line

  module _ (date : Text) (new : Zone) (lines : List Line)
      (i : InstallsSelected g zone None (only x) no_bypass date new lines) where
    abbrev d : Decision
    d = i.decision

    setting_is : d.setting ≡ s
    setting_is =
        let of = i.decides.candidates in
        i.decides.setting ∙ ap (λ cands. setting g zone None cands no_bypass)
        (lone x i.decides.cands of.rising ((of.members x).1 candidate)
        (λ y is. candidate_alone y ((of.members y).0 is)))

    kept_one : d.kept ≡ x ∷ []
    kept_one = kept_are d.kept (subst (λ t. IsKeptSet t d.kept) setting_is i.decides.kept)

    installs_kept : d.installing.kept ≡ x ∷ []
    installs_kept = ap (λ it. it.kept) i.decides.installing ∙ kept_one

    installed : (y : Id) → Contains d.installing.kept y → y ≡ x
    installed y is = in_one x y (subst (λ ids. Contains ids y) installs_kept is)

    effect : TakesEffect d.installing x
    effect = record {
      kept = subst (λ ids. Contains ids x) (sym installs_kept) (here x []);
      first = λ y is apart over. apart (installed y is);
    }

    in_kept : Contains d.kept x
    in_kept = subst (λ ids. Contains ids x) (sym kept_one) (here x [])

    concerned : (y : Id) (t : Status) → HasStatus d (only x) y t → y ≡ x
    concerned y t (IsInstalled e) = installed y e.kept
    concerned y t (IsSuperseded k other) = in_one x y (subst (λ ids. Contains ids y) kept_one k)
    concerned y t (IsFailed f c out why) =
        in_one x y (subst (λ (it : Setting). Contains it.cands y) setting_is c)
    concerned y t (IsNotChosen why at) = named_alone g zone x y why
        (subst (λ (it : Setting). not_chosen it.global it.zone (only x) y ≡ Some why) setting_is at)

    applied : (t : Status) → HasStatus d (only x) x t → t ≡ Applied
    applied t (IsInstalled e) = ap (λ (it : Setting). installed_status it.zone.kind) setting_is
        ∙ ap installed_status target
    applied t (IsSuperseded k other) = absurd (other effect)
    applied t (IsFailed f c out why) = absurd (out in_kept)
    applied t (IsNotChosen why at) = absurd (cc (
      open_unnamed g zone x opened,
      subst
          (λ (it : Setting). not_chosen it.global it.zone (only x) x ≡ Some why) setting_is at,
    ))

    pub clear_line : lines ≡ StatusLine x (place_of g x) Applied ∷ []
    clear_line =
        let l = i.lines_are in
        let ids : l.ids ≡ x ∷ [] = lone x l.ids l.rising (l.all x _ (IsInstalled effect))
        (λ y is. concerned y (l.status y) (l.each y is)) in
        let status : l.status x ≡ Applied = applied (l.status x)
        (l.each x (subst (λ all. Contains all x) (sym ids) (here x []))) in
        l.lines_are ∙ ap (map (λ y. StatusLine y (place_of d.setting.global y) (l.status y))) ids
        ∙ ap₂ (λ (it : Setting) t. StatusLine x (place_of it.global x) t ∷ []) setting_is status

pub clear_applied : (g : Global) (zone : Zone) (x : Id) (facts : List Fact) → zone.kind ≡ Target
    → AreFacts (alone g zone x) x facts → AreClear facts → (date : Text) (new : Zone) (lines : List Line)
    → InstallsSelected g zone None (only x) no_bypass date new lines → lines ≡ StatusLine x (place_of g x) Applied ∷ []
clear_applied g zone x facts target are clear date new lines i =
    clear_line g zone x facts target are clear date new lines i
