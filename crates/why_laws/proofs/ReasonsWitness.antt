-- What `smpe why` tells of a failure witnesses it: the lines of an install name the tests that each candidate fails.
use Rattle.std.proofs.Common.{◌≡◌, ◌∙◌, inl, inr, ℕ, Bool, true, false, not, List, Option, None, map}
use Rattle.std.proofs.Common.{Contains, IsTrue, refl, sym, ap, subst, true≢false}
use Rattle.std.specs.Prelude.{◌||◌}
use Rattle.std.proofs.lemmas.Bool.{and_parts}
use Rattle.terms.specs.declared.kinds.ZoneKind.{ZoneKind}
use Rattle.terms.specs.declared.kinds.ZoneKind.TheVariants.{Target, Distribution}
use Rattle.terms.specs.declared.codes.NeedKind.{NeedKind}
use Rattle.terms.specs.declared.codes.Test.{Test}
use Rattle.terms.specs.declared.codes.Test.TheVariants.{ChainDeleted, InClash}
use Rattle.terms.specs.declared.not_chosen.NotChosen.{NotChosen}
use Rattle.terms.specs.declared.not_chosen.NotChosen.TheVariants as out
use Rattle.terms.specs.Types.{Text, Id, Global, Zone, Selection}
use Rattle.terms.specs.Lookups.{IsZone, is_nil, is_applied, supby_of}
use Rattle.terms.specs.Choice.{counting}
use Rattle.terms.specs.Failures.{all_tests, all_needs}
use Rattle.terms.specs.Global.{IsGlobal}
use Rattle.terms.specs.Install.{TakesEffect}
use Rattle.terms.specs.Judged.{setting, install_judging}
use Rattle.terms.specs.Needs.{Needs, asked}
use Rattle.terms.specs.Tests.{Setting, Fails, IsEligible, AreSurvivors}
use Rattle.terms.proofs.Ids.{in_or_not}
use Rattle.terms.proofs.ListMembers.{flat_in, in_filter, filter_in, in_map, map_in}
use Rattle.machine.specs.Outcome.{Status, Superseded, Failed, Failure, OpenNeed, Line, StatusLine, Place}
use Rattle.machine.specs.Receiving.{place_of}
use Rattle.machine.specs.Installing.{IsFailure, Decision, HasStatus, IsInstalled, IsSuperseded, IsFailed}
use Rattle.machine.specs.Installing.{IsNotChosen, installed_status, not_chosen_status, AreInstallLines}
use Rattle.change.proofs.ChosenVers.{counting_for, names_no_loop}
use Rattle.report.specs.Facts.{AreFacts, among, with_id}
use Rattle.why_verdict.specs.Conflicts.{AreConflicts}
use Rattle.why_verdict.specs.Verdict.{is_candidate}
use Rattle.why_laws.specs.Witnesses.{NamesTests, AreLinesOf, IsWitnessed}
use Rattle.why_laws.proofs.Witnessed.{witnessed}
use Rattle.machine_laws.proofs.Causes.{each_test, failure_stably}
use Rattle.machine_laws.proofs.Decided.{candidates_only}
use Rattle.machine_laws.proofs.Decisions.{candidate_open}
use Rattle.machine_laws.proofs.Finitely.{either_stably}
use Rattle.machine_laws.proofs.InstallLines.{IsSound, sound, in_kept, chosen}
use Rattle.smpe_why.specs.Telling.{Inquiry, Prints, IsToldOf}
use Rattle.why_laws.specs.Reasons.{ReasonsWitness}
use Rattle.smpe_why.proofs.Parts.{with_candidate}

-- an eligible candidate fails no test
passes_all : (s : Setting) (y : Id) → IsEligible s y → (t : Test) → ¬ Fails s y t
passes_all s y eligible ChainDeleted fails = eligible.0.1 fails
passes_all s y eligible InClash fails = eligible.1 fails
passes_all s y eligible t fails = eligible.0.0.1 t fails

candidate_installed : (kind : ZoneKind) → IsTrue (is_candidate (installed_status kind))
candidate_installed Target = refl
candidate_installed Distribution = refl

names_installed : (s : Setting) (y : Id) (kind : ZoneKind) → ((t : Test) → ¬ Fails s y t)
    → NamesTests s y (installed_status kind)
names_installed s y Target passes = passes
names_installed s y Distribution passes = passes

-- an id that is named in vain is no candidate
not_candidate : {A : Type 0} (why : NotChosen) → IsTrue (is_candidate (not_chosen_status why)) → A
not_candidate out.Already is = absurd (true≢false (sym is))
not_candidate out.Deleted is = absurd (true≢false (sym is))
not_candidate out.Missing is = absurd (true≢false (sym is))
not_candidate out.NoVer is = absurd (true≢false (sym is))
not_candidate out.NotApplied is = absurd (true≢false (sym is))

-- a failure names the tests that fail
failure_names : (s : Setting) (survivors kept : List Id) (y : Id) (f : Failure)
    → IsFailure (install_judging s survivors) kept y f → NamesTests s y (Failed f)
failure_names s survivors kept y f why t = (
  λ is. (why.failed t).0 (filter_in why.fails all_tests t (subst (λ l. Contains l t) why.tests is)).1,
  λ fails. subst (λ l. Contains l t) (sym why.tests)
      (in_filter why.fails all_tests t (each_test t) ((why.failed t).1 fails)),
)

-- and needs of the candidate
failure_needs : (s : Setting) (survivors kept : List Id) (y : Id) (f : Failure)
    → IsFailure (install_judging s survivors) kept y f → (n : OpenNeed) → Contains f.needs n
    → Needs s survivors y n.kind n.id
failure_needs s survivors kept y f why n is =
    let of_kind : NeedKind → List OpenNeed = λ kind. map (λ z. record { kind = kind; id = z }) (why.ids_of kind) in
    let from = flat_in of_kind all_needs n (subst (λ l. Contains l n) why.needs is) in
    let one = map_in (λ z. record { kind = from.0; id = z }) (why.ids_of from.0) n from.2 in
    subst (λ (m : OpenNeed). Needs s survivors y m.kind m.id) one.2 ((why.are_open from.0 one.0).0 one.1).needs

module _ (d : Decision) (sel : Selection) (is : IsSound d sel)
    (eligible : (y : Id) → Contains d.kept y → IsEligible d.setting y) where
  -- what a candidate's status says
  candidate_status : (y : Id) (status : Status) → HasStatus d sel y status → Contains d.setting.cands y
      → IsTrue (is_candidate status)
  candidate_status y _ (IsInstalled effect) cand = candidate_installed d.setting.zone.kind
  candidate_status y _ (IsSuperseded kept other) cand = refl
  candidate_status y _ (IsFailed f c out why) cand = refl
  candidate_status y _ (IsNotChosen why at) cand = chosen d sel is y why cand at

  status_names : (y : Id) (status : Status) → HasStatus d sel y status → IsTrue (is_candidate status)
      → Contains d.setting.cands y × NamesTests d.setting y status
  status_names y _ (IsInstalled effect) of =
      let kept = in_kept d sel is y effect in (
        is.within y kept,
        names_installed d.setting y d.setting.zone.kind (passes_all d.setting y (eligible y kept)),
      )
  status_names y _ (IsSuperseded kept other) of = (is.within y kept, passes_all d.setting y (eligible y kept))
  status_names y _ (IsFailed f c out why) of = (c, failure_names d.setting d.survivors d.kept y f why)
  status_names y _ (IsNotChosen why at) of = not_candidate why of

  -- a candidate has a status
  status_stably : (y : Id) → Contains d.setting.cands y → ¬ ¬ ((status : Status) × HasStatus d sel y status)
  status_stably y cand none = elim (in_or_not d.kept y) [
    | inl kept ↦ either_stably (TakesEffect d.installing y) (λ either. elim either [
      | inl effect ↦ none (installed_status d.setting.zone.kind, IsInstalled effect)
      | inr other ↦ none (Superseded, IsSuperseded kept other)
    ])
    | inr out ↦ failure_stably (install_judging d.setting d.survivors) d.kept (asked d.setting d.survivors)
        (λ x z kind needs. needs.asks) y (λ f. none (Failed f.0, IsFailed f.0 cand out f.1))
  ]

  module _ (lines : List Line) (are : AreInstallLines d sel lines) where
    -- the status in a line
    line_status : (y : Id) (place : Place) (status : Status) → Contains lines (StatusLine y place status)
        → HasStatus d sel y status
    line_status y place status there =
        let m = map_in (λ x. StatusLine x (place_of d.setting.global x) (are.status x)) are.ids
        (StatusLine y place status) (subst (λ l. Contains l (StatusLine y place status)) are.lines_are there) in
        let same : m.0 ≡ y = cc (m.2) in
        let of : are.status m.0 ≡ status = cc (m.2) in
        subst (λ x. HasStatus d sel x status) same (subst (HasStatus d sel m.0) of (are.each m.0 m.1))

    lines_of : AreLinesOf d.setting lines
    lines_of = record {
      all = λ y cand.
          let there : Contains are.ids y = elim (in_or_not are.ids y) [
            | inl is ↦ is
            | inr out ↦ absurd (status_stably y cand (λ has. out (are.all y has.0 has.1)))
          ] in (
            place_of d.setting.global y,
            are.status y,
            subst (λ l. Contains l (StatusLine y (place_of d.setting.global y) (are.status y))) (sym are.lines_are)
                (in_map (λ x. StatusLine x (place_of d.setting.global x) (are.status x)) are.ids y there),
            candidate_status y (are.status y) (are.each y there) cand,
          );
      each = λ y place status there of. status_names y status (line_status y place status there) of;
    }

    -- a failed one
    abbrev Fits : Id → Status → Type 0
    Fits y (Failed f) = Contains d.setting.cands y × NamesTests d.setting y (Failed f)
        × ((n : OpenNeed) → Contains f.needs n → Needs d.setting d.survivors y n.kind n.id)
    Fits y _ = Unit {0}

    fits_installed : (y : Id) (kind : ZoneKind) → Fits y (installed_status kind)
    fits_installed y Target = tt
    fits_installed y Distribution = tt

    fits_unchosen : (y : Id) (why : NotChosen) → Fits y (not_chosen_status why)
    fits_unchosen y out.Already = tt
    fits_unchosen y out.Deleted = tt
    fits_unchosen y out.Missing = tt
    fits_unchosen y out.NoVer = tt
    fits_unchosen y out.NotApplied = tt

    fits : (y : Id) (status : Status) → HasStatus d sel y status → Fits y status
    fits y _ (IsInstalled effect) = fits_installed y d.setting.zone.kind
    fits y _ (IsSuperseded kept other) = tt
    fits y _ (IsFailed f c out why) = (
      c,
      failure_names d.setting d.survivors d.kept y f why,
      failure_needs d.setting d.survivors d.kept y f why,
    )
    fits y _ (IsNotChosen why at) = fits_unchosen y why

-- a candidate is not applied
unapplied : (zone : Zone) (x : Id) → not (is_applied zone x || not (is_nil (supby_of zone x))) ≡ true
    → is_applied zone x ≡ false
unapplied zone x off = by (is_applied zone x) (not (is_nil (supby_of zone x))) off
  where
    by : (a b : Bool) → not (a || b) ≡ true → a ≡ false
    by true b e = absurd (true≢false (sym e))
    by false b e = refl

module _ (g : Global) (is_global : IsGlobal g) (zone : Zone) (is_zone : IsZone zone) (related : Option Zone)
    (a : Inquiry) (ids cands : List Id) (lines : List Line) (prints : Prints g zone related a ids cands lines) where
  abbrev d : Decision
  d = prints.installs.decision

  abbrev sel : Selection
  sel = prints.selection

  abbrev s : Setting
  s = setting g zone related cands a.bypass

  setting_is : d.setting ≡ s
  setting_is =
      let of = prints.installs.decides in
      of.setting ∙ ap (λ l. setting g zone related l a.bypass)
      (candidates_only g zone sel of.cands cands of.candidates prints.candidates)

  is_sound : IsSound d sel
  is_sound = sound g zone related sel a.bypass prints.date d prints.installs.decides

  eligible : (y : Id) → Contains d.kept y → IsEligible d.setting y
  eligible y is = let stays = (prints.installs.decides.kept.members y).0 is in stays.1.eligible y stays.2

  of_lines : AreLinesOf s lines
  of_lines = subst (λ it. AreLinesOf it lines) setting_is
      (lines_of d sel is_sound eligible lines prints.installs.lines_are)

  -- what is told of x
  told_of : (x : Id) (text : Text) (code : ℕ) (told : IsToldOf (among g zone cands a.bypass x) lines x text code)
      (place : Place) (f : Failure) → Contains lines (StatusLine x place (Failed f))
      → IsWitnessed s d.survivors x
      (record { bypass = a.bypass; facts = told.facts; conflicts = told.conflicts; lines = lines }) f
  told_of x text code told place f there =
      let fit : Contains s.cands x × NamesTests s x (Failed f)
      × ((n : OpenNeed) → Contains f.needs n → Needs s d.survivors x n.kind n.id) =
      subst (λ (it : Setting). Contains it.cands x × NamesTests it x (Failed f)
      × ((n : OpenNeed) → Contains f.needs n → Needs it d.survivors x n.kind n.id)) setting_is
      (fits d sel is_sound eligible lines prints.installs.lines_are x (Failed f)
      (line_status d sel is_sound eligible lines prints.installs.lines_are x place (Failed f) there)) in
      let opened = candidate_open g zone sel x ((prints.candidates.members x).0 fit.0) in
      let off = (and_parts _ _ (and_parts _ _ (and_parts _ _ opened).0).0).1 in
      let same : with_id cands x ≡ cands = with_candidate cands x prints.candidates.rising fit.0 in
      witnessed g zone related cands a.bypass is_global is_zone
      (names_no_loop g zone.srel (counting g zone cands) (counting_for g zone cands) is_global.no_loop)
      d.survivors x fit.0 (unapplied zone x off)
      told.facts (subst (λ l. AreFacts (setting g zone None l a.bypass) x told.facts) same told.are)
      lines of_lines
      told.conflicts (subst (λ l. AreConflicts (setting g zone None l a.bypass) lines x told.conflicts) same
      told.are_conflicts)
      f fit.1 fit.2

pub reasons_witness : ReasonsWitness
reasons_witness g zone related a ids cands lines is_global is_zone prints x text code told place f there = (
  prints.installs.decision.survivors,
  subst (λ it. AreSurvivors it prints.installs.decision.survivors)
      (setting_is g is_global zone is_zone related a ids cands lines prints) prints.installs.decides.survivors,
  told_of g is_global zone is_zone related a ids cands lines prints x text code told place f there,
)
