-- Facts that do not block an APPLY of the id alone, and what such an APPLY answers.
use Rattle.std.specs.Prelude.{◌≡◌, ◌&&◌, Bool, true, false, not, List, [], ◌∷◌, Option, None, Some, All, IsTrue}
use Rattle.std.specs.Prelude.{filter, length}
use Rattle.std.specs.List.{list_all}
use Rattle.terms.specs.declared.kinds.ZoneKind.TheVariants.{Target}
use Rattle.terms.specs.Types.{Text, Id, Global, Zone, Selection}
use Rattle.terms.specs.CommandForms.{no_bypass}
use Rattle.report.specs.Facts.{Standing, StandsReceived}
use Rattle.report.specs.Facts.{Resolution, Supplied, ElementLevel, Fact}
use Rattle.report.specs.Facts.{is_over}
use Rattle.report.specs.Facts.{StandingFact, SupersederFact, EntryFact, VerFact, RequisiteFact, HoldFact, ElementFact}
use Rattle.report.specs.Facts.{DeleteFact, TakesFact, NpreFact, ForbiddenFact, NeededFact, AreFacts, alone}
use Rattle.machine.specs.Outcome.{Line, StatusLine, Applied}
use Rattle.machine.specs.Receiving.{place_of}
use Rattle.machine.specs.Installing.{InstallsSelected}

-- received, and neither applied nor superseded nor deleted
abbrev pub is_received_alone : Standing → Bool
is_received_alone StandsReceived = true
is_received_alone _ = false

abbrev pub is_supplied : Resolution → Bool
is_supplied (Supplied ids) = true
is_supplied _ = false

-- a hold for ERROR whose reason is supplied; a SYSTEM or USER hold has no answer
abbrev pub is_resolved : Option Resolution → Bool
is_resolved None = false
is_resolved (Some answer) = is_supplied answer

-- The element is the id's own, and it is over all SYSMODs that made it. An element that it replaces need not exist.
abbrev pub is_free : Bool → Option ElementLevel → Bool
is_free replaces None = replaces
is_free replaces (Some f) = f.owned && list_all (λ m. is_over m.relation) (f.rmid ∷ f.umids)

-- the fact does not block it
abbrev pub is_clear : Fact → Bool
is_clear (StandingFact x kind standing) = is_received_alone standing
is_clear (SupersederFact y) = true
is_clear (EntryFact kind e) = true
is_clear (VerFact n fmid fit counts) = true
is_clear (RequisiteFact r answer) = is_supplied answer
is_clear (HoldFact h answer) = is_resolved answer
is_clear (ElementFact type name replaces brought f) = is_free replaces f
is_clear (DeleteFact z own) = not own
is_clear (TakesFact y) = true
is_clear (NpreFact y applied) = not applied
is_clear (ForbiddenFact y) = false
is_clear (NeededFact y) = true

-- it is a ++VER that fits
abbrev pub is_fitting : Fact → Bool
is_fitting (VerFact n fmid fit counts) = fit
is_fitting _ = false

-- All are clear, and one ++VER fits.
pub record AreClear (facts : List Fact) : Type 0 where
  pub each : All (λ f. IsTrue (is_clear f)) facts
  pub fitting : length (filter is_fitting facts) ≡ 1

-- SELECT names these ids, and no other operand chooses anything but, if it is given, GROUPEXTEND
abbrev pub selecting : List Id → Bool → Selection
selecting ids groupextend = record {
  functions = false;
  ptfs = false;
  apars = false;
  usermods = false;
  select = ids;
  exclude = [];
  sourceid = [];
  forfmid = [];
  group = [];
  groupextend = groupextend;
}

-- SELECT names only this id
abbrev pub only : Id → Selection
only x = selecting (x ∷ []) false

-- If the facts of an id are clear, an APPLY that selects it alone, without BYPASS, has one line: it is applied.
abbrev pub ClearIsApplied : Type 0
ClearIsApplied =
    (g : Global) (zone : Zone) (x : Id) (facts : List Fact) → zone.kind ≡ Target → AreFacts (alone g zone x) x facts
    → AreClear facts → (date : Text) (new : Zone) (lines : List Line)
    → InstallsSelected g zone None (only x) no_bypass date new lines
    → lines ≡ StatusLine x (place_of g x) Applied ∷ []
