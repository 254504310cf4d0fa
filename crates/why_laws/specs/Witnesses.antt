-- What the reasons below a verdict witness: a failed test or an open need.
use Rattle.std.specs.Prelude.{◌≡◌, ◌≢◌, ◌↔◌, ◌-◌, not, List, [], ◌∷◌, filter, All, None, Some, slice_get}
use Rattle.std.specs.Prelude.{Contains, IsTrue, IsFalse}
use Rattle.terms.specs.declared.kinds.HoldKind.{HoldKind}
use Rattle.terms.specs.declared.kinds.HoldKind.TheVariants.{System, User}
use Rattle.terms.specs.declared.kinds.ElemType.{ElemType}
use Rattle.terms.specs.declared.codes.Test.{Test}
use Rattle.terms.specs.declared.codes.Test.TheVariants.{HeldBySystem, HeldByUser, ForbiddenByNpre, OwnedByAnother}
use Rattle.terms.specs.declared.codes.Test.TheVariants.{Regression, NothingToUpdate, ChainDeleted, InClash, SeveralFit}
use Rattle.terms.specs.declared.codes.NeedKind.{NeedKind}
use Rattle.terms.specs.Types.{Name, Id, Ver, Element}
use Rattle.terms.specs.Lookups.{is_in, has_change, element_of, is_applied, is_function, supplies}
use Rattle.terms.specs.Choice.{vers_of, fits, npre_of, del_of}
use Rattle.terms.specs.Over.{IsOver, chain}
use Rattle.terms.specs.Changes.{has_update}
use Rattle.terms.specs.Deleted.{is_taken_out}
use Rattle.terms.specs.Tests.{Setting, view_of, owner_of, standing_holds, has_candidate_base, PassesAlone, Survives}
use Rattle.terms.specs.Tests.{Fails}
use Rattle.machine.specs.Outcome.{Status, Failed, Failure, OpenNeed, Line, StatusLine, Place}
use Rattle.report.specs.Facts.{MayServe, Resolution, Supplied, Waived, ByItself, Open, is_over, Maker, ElementLevel}
use Rattle.report.specs.Facts.{Fact, VerFact, HoldFact, ElementFact, DeleteFact, NpreFact, ForbiddenFact}
use Rattle.why_verdict.specs.declared.conflict.Conflict.{Conflict}
use Rattle.why_verdict.specs.declared.conflict.Conflict.TheVariants.{Deletes, Forbids, ForbiddenBy, Shares}
use Rattle.why_verdict.specs.Conflicts.{IsApart}
use Rattle.why_verdict.specs.Verdict.{Basis, reason, conflict_reason, test_told, first_answer, is_candidate}

-- ---- facts of x that witness a failed test

-- a hold of this kind that keeps x off
abbrev pub IsStandingHold : Setting → HoldKind → Id → Fact → Type 0
IsStandingHold s kind x (HoldFact h answer) = Contains (standing_holds s kind x) h
IsStandingHold s kind x _ = ⊥

-- a SYSMOD that is applied in x's view: x's NPRE names it, or it is a function whose NPRE names x
abbrev pub IsForbidding : Setting → Id → Fact → Type 0
IsForbidding s x (NpreFact y applied) = IsTrue (is_applied (view_of s x) y) × Contains (npre_of s.choice x) y
IsForbidding s x (ForbiddenFact y) =
    IsTrue (is_applied (view_of s x) y) × IsTrue (is_function s.global y) × Contains (npre_of s.choice y) x
IsForbidding s x _ = ⊥

-- x changes the element of this type and name, and its view has it as e
abbrev pub ChangesElement : Setting → Id → ElemType → Name → Element → Type 0
ChangesElement s x type name e =
    IsTrue (has_change s.global x type name) × (element_of (view_of s x) type name ≡ Some e)

-- an element with another owner
abbrev pub IsOfAnother : Setting → Id → Fact → Type 0
IsOfAnother s x (ElementFact type name replaces brought level) =
    (e : Element) × ChangesElement s x type name e × (e.fmid ≢ owner_of s x)
IsOfAnother s x _ = ⊥

-- an RMID or UMID of the element that x is not over
abbrev pub IsLower : Setting → Id → Element → Maker → Type 0
IsLower s x e m = Contains (e.rmid ∷ e.umids) m.id × ¬ IsOver s.choice x m.id

-- the RMID and UMIDs that are told
abbrev pub lower_makers : ElementLevel → List Maker
lower_makers level = filter (λ m. not (is_over m.relation)) (level.rmid ∷ level.umids)

-- an element of which x would regress those that are told
abbrev pub IsRegressed : Setting → Id → Fact → Type 0
IsRegressed s x (ElementFact type name replaces brought (Some level)) =
    (e : Element) × ChangesElement s x type name e × (lower_makers level ≢ [])
    × All (IsLower s x e) (lower_makers level)
IsRegressed s x _ = ⊥

-- an element that x updates, that its view lacks, and that its FMID does not bring
abbrev pub IsLacking : Setting → Id → Fact → Type 0
IsLacking s x (ElementFact type name replaces brought level) =
    IsTrue (has_update s.global x type name) × (element_of (view_of s x) type name ≡ None)
    × IsFalse (has_candidate_base s x type name)
IsLacking s x _ = ⊥

-- an id of its own chain that its DELETE names
abbrev pub IsOwnDeletion : Setting → Id → Fact → Type 0
IsOwnDeletion s x (DeleteFact z own) = Contains (del_of s.choice x) z × Contains (chain s.global s.choice x) z
IsOwnDeletion s x _ = ⊥

-- a ++VER for the zone's SREL that fits, with its number
abbrev pub IsFittingVer : Setting → Id → Fact → Type 0
IsFittingVer s x (VerFact n fmid fit counts) =
    (v : Ver) × (slice_get (vers_of s.global s.zone.srel x) (n - 1) ≡ Some v) × (v.fmid ≡ fmid)
    × IsTrue (fits s.zone (is_in s.cands) v)
IsFittingVer s x _ = ⊥

-- The fact witnesses the test. NotInTarget has no witness among the facts, and RESTORE's tests are not told.
abbrev pub Witnesses : Setting → Id → Test → Fact → Type 0
Witnesses s x HeldBySystem fact = IsStandingHold s System x fact
Witnesses s x HeldByUser fact = IsStandingHold s User x fact
Witnesses s x ForbiddenByNpre fact = IsForbidding s x fact
Witnesses s x OwnedByAnother fact = IsOfAnother s x fact
Witnesses s x Regression fact = IsRegressed s x fact
Witnesses s x NothingToUpdate fact = IsLacking s x fact
Witnesses s x ChainDeleted fact = IsOwnDeletion s x fact
Witnesses s x SeveralFit fact = IsFittingVer s x fact
Witnesses s x _ fact = ⊥

-- ---- conflicts with other candidates that witness a failed test

-- an id of x's chain that the DELETE of another candidate names, which passes the tests that look only at itself
abbrev pub IsDeletion : Setting → Id → Conflict → Type 0
IsDeletion s x (Deletes y z) =
    (x ≢ y) × PassesAlone s y × Contains (del_of s.choice y) z × Contains (chain s.global s.choice x) z
IsDeletion s x _ = ⊥

-- another survivor
abbrev pub IsRival : Setting → Id → Id → Type 0
IsRival s x y = (x ≢ y) × Survives s y

-- a clash with another survivor: by NPRE of either, or by an element that both change and may not share
abbrev pub IsClash : Setting → Id → Conflict → Type 0
IsClash s x (Forbids y) = IsRival s x y × Contains (npre_of s.choice x) y
IsClash s x (ForbiddenBy y) = IsRival s x y × Contains (npre_of s.choice y) x
IsClash s x (Shares e) =
    IsRival s x e.with × IsTrue (has_change s.global x e.elem_type e.name)
    × IsTrue (has_change s.global e.with e.elem_type e.name) × IsApart s x e.with (Some e.apart)
IsClash s x _ = ⊥

abbrev pub ConflictWitnesses : Setting → Id → Test → Conflict → Type 0
ConflictWitnesses s x ChainDeleted conflict = IsDeletion s x conflict
ConflictWitnesses s x InClash conflict = IsClash s x conflict
ConflictWitnesses s x _ conflict = ⊥

-- ---- what the lines of an install say

-- The status of a candidate names the tests that it fails: any but Failed names none.
abbrev pub NamesTests : Setting → Id → Status → Type 0
NamesTests s y (Failed f) = (t : Test) → Contains f.tests t ↔ Fails s y t
NamesTests s y _ = (t : Test) → ¬ Fails s y t

-- Each candidate has a line with such a status, and nothing else has.
pub record AreLinesOf (s : Setting) (lines : List Line) : Type 0 where
  pub all : (y : Id) → Contains s.cands y
      → (place : Place) × (status : Status) × Contains lines (StatusLine y place status) × IsTrue (is_candidate status)
  pub each : (y : Id) (place : Place) (status : Status) → Contains lines (StatusLine y place status)
      → IsTrue (is_candidate status) → Contains s.cands y × NamesTests s y status

-- ---- answers that witness an open need

-- y supplies z in the zone, and the DELETE of a survivor other than x takes y out
abbrev pub IsTakenFrom : Setting → List Id → Id → Id → Id → Type 0
IsTakenFrom s survivors x z y =
    IsTrue (supplies s.zone y z)
    × ((w : Id) × Contains survivors w × (w ≢ x)
    × IsTrue (is_taken_out s.global s.choice (del_of s.choice w) s.zone y))

-- The answer says why x needs z: what supplies z is taken out, or nothing supplies it, and x or exactly these SYSMODs
-- would serve the need.
abbrev pub WitnessesNeed : Setting → List Id → Id → NeedKind → Id → Resolution → Type 0
WitnessesNeed s survivors x kind z (Supplied ids) = (ids ≢ []) × All (IsTakenFrom s survivors x z) ids
WitnessesNeed s survivors x kind z Waived = ⊥
WitnessesNeed s survivors x kind z ByItself = MayServe s kind z x
WitnessesNeed s survivors x kind z (Open ids) =
    (¬ MayServe s kind z x) × ((y : Id) → Contains ids y ↔ MayServe s kind z y)

-- ---- all that is told of a failure

-- Each reason below a failed test is a witness of it, and each failed test has a reason. So has each open need.
pub record IsWitnessed (s : Setting) (survivors : List Id) (x : Id) (a : Basis) (f : Failure) : Type 0 where
  pub facts : (t : Test) (fact : Fact) → Contains f.tests t → Contains a.facts fact → reason a.bypass t fact ≢ []
      → Witnesses s x t fact
  pub conflicts : (t : Test) (conflict : Conflict) → Contains f.tests t → Contains a.conflicts conflict
      → conflict_reason t conflict ≢ [] → ConflictWitnesses s x t conflict
  pub tests : (t : Test) → Fails s x t → Contains f.tests t × (test_told a t ≢ [])
  pub needs : (n : OpenNeed) → Contains f.needs n
      → (answer : Resolution) × (first_answer n.kind n.id a.facts ≡ Some answer)
      × WitnessesNeed s survivors x n.kind n.id answer
