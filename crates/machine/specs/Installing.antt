-- What APPLY and ACCEPT make of a zone, and what they print of each id.
-- (IBM z/OS SMP/E Commands, APPLY and ACCEPT processing. The lines are this project's.)
use Rattle.std.specs.Prelude.{◌≡◌, ◌↔◌, ◌+◌, Bool, List, Option, Some, IsTrue, Contains, filter, map}
use Rattle.std.specs.List.{flat_map}
use Rattle.terms.specs.declared.kinds.ZoneKind.{ZoneKind}
use Rattle.terms.specs.declared.kinds.ZoneKind.TheVariants.{Target, Distribution}
use Rattle.terms.specs.declared.codes.Test.{Test}
use Rattle.terms.specs.declared.codes.NeedKind.{NeedKind}
use Rattle.terms.specs.declared.not_chosen.NotChosen.{NotChosen}
use Rattle.terms.specs.declared.not_chosen.NotChosen.TheVariants as out
use Rattle.terms.specs.Types.{Text, Id, Global, Zone, Bypass, Selection}
use Rattle.terms.specs.Lookups.{IsRising}
use Rattle.terms.specs.Choice.{place, counting}
use Rattle.terms.specs.Tests.{Setting, AreSurvivors}
use Rattle.terms.specs.Needs.{bypassed_ids}
use Rattle.terms.specs.Candidates.{AreCandidates, not_chosen}
use Rattle.terms.specs.Judging.{Judging}
use Rattle.terms.specs.Judged.{setting, install_judging, IsKeptSet}
use Rattle.terms.specs.Failures.{all_tests, all_needs, IsOpenNeed, IsCauser}
use Rattle.terms.specs.Install.{Installation, TakesEffect, HasInstalled}
use Rattle.machine.specs.Outcome.{Status, Already, Applied, Accepted, Superseded, Failed, Failure, Deleted, Missing}
use Rattle.machine.specs.Outcome.{NoVer, NotApplied, Line, StatusLine}
use Rattle.machine.specs.Receiving.{place_of}

-- Why a candidate is not among the kept ones: its failed tests, its open needs by kind and id, and its causers.
pub record IsFailure (judging : Judging) (kept : List Id) (x : Id) (f : Failure) : Type 0 where
  pub fails : Test → Bool
  pub tests : f.tests ≡ filter fails all_tests
  pub failed : (t : Test) → IsTrue (fails t) ↔ judging.fails x t
  pub ids_of : NeedKind → List Id
  pub needs : f.needs ≡ flat_map (λ kind. map (λ z. record { kind = kind; id = z }) (ids_of kind)) all_needs
  pub ids_rising : (kind : NeedKind) → IsRising (ids_of kind)
  pub are_open : (kind : NeedKind) (z : Id) → Contains (ids_of kind) z ↔ IsOpenNeed judging kept x kind z
  pub causers_rising : IsRising f.causers
  pub causers : (y : Id) → Contains f.causers y ↔ IsCauser judging kept x y

-- what APPLY or ACCEPT decides: its setting, the survivors of its tests, the kept set, and what is installed
pub record Decision : Type 0 where
  pub setting : Setting
  pub survivors : List Id
  pub kept : List Id
  pub installing : Installation

-- They are those of the selection and BYPASS in this zone, with the related target zone of ACCEPT.
pub record IsDecision (g : Global) (zone : Zone) (related : Option Zone) (sel : Selection) (bypass : Bypass)
    (date : Text) (d : Decision) : Type 0 where
  pub cands : List Id
  pub candidates : AreCandidates g zone sel cands
  pub setting : d.setting ≡ setting g zone related cands bypass
  pub survivors : AreSurvivors d.setting d.survivors
  pub kept : IsKeptSet d.setting d.kept
  pub bypassed : List (Id × Id)
  pub are_bypassed : (x z : Id) → Contains bypassed (x, z) ↔ (Contains d.kept x × Contains (bypassed_ids d.setting x) z)
  pub installing : d.installing ≡ record {
    global = g;
    choice = counting g zone cands;
    number = λ x. place g zone cands x + 1;
    zone = zone;
    kept = d.kept;
    bypassed = bypassed;
    date = date;
  }

-- the status of an installed SYSMOD
abbrev pub installed_status : ZoneKind → Status
installed_status Target = Applied
installed_status Distribution = Accepted

abbrev pub not_chosen_status : NotChosen → Status
not_chosen_status out.Already = Already
not_chosen_status out.Deleted = Deleted
not_chosen_status out.Missing = Missing
not_chosen_status out.NoVer = NoVer
not_chosen_status out.NotApplied = NotApplied

-- The status of an id: installed, kept and superseded, failed, or named by the command without being a candidate.
pub data HasStatus (d : Decision) (sel : Selection) (x : Id) : Status → Type 0 where
  IsInstalled : TakesEffect d.installing x → HasStatus d sel x (installed_status d.setting.zone.kind)
  IsSuperseded : Contains d.kept x → (¬ TakesEffect d.installing x) → HasStatus d sel x Superseded
  IsFailed : (f : Failure) → Contains d.setting.cands x → (¬ Contains d.kept x)
      → IsFailure (install_judging d.setting d.survivors) d.kept x f
      → HasStatus d sel x (Failed f)
  IsNotChosen : (why : NotChosen) → not_chosen d.setting.global d.setting.zone sel x ≡ Some why
      → HasStatus d sel x (not_chosen_status why)

-- The lines by id: one for each id that has a status.
pub record AreInstallLines (d : Decision) (sel : Selection) (lines : List Line) : Type 0 where
  pub ids : List Id
  pub rising : IsRising ids
  pub status : Id → Status
  pub lines_are : lines ≡ map (λ x. StatusLine x (place_of d.setting.global x) (status x)) ids
  pub each : (x : Id) → Contains ids x → HasStatus d sel x (status x)
  pub all : (x : Id) (s : Status) → HasStatus d sel x s → Contains ids x

-- the new zone and the lines; CHECK gives the same lines
pub record InstallsSelected (g : Global) (zone : Zone) (related : Option Zone) (sel : Selection) (bypass : Bypass)
    (date : Text) (new : Zone) (lines : List Line) : Type 0 where
  pub decision : Decision
  pub decides : IsDecision g zone related sel bypass date decision
  pub lines_are : AreInstallLines decision sel lines
  pub installs : HasInstalled decision.installing new
