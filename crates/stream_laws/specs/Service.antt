-- What a clean stream promises for every system: whatever commands have run on it, its zones are of the stream and lack
-- no fix. Left out are a BYPASS of requisites, and SYSMODs with two ++VERs for one SREL.
use Rattle.std.specs.Prelude.{◌≡◌, ◌≢◌, List, [], Option, None, All, Contains}
use Rattle.terms.specs.Types.{Id, Global, Zone, Selection, Command, Apply, Accept}
use Rattle.terms.specs.Types.{Bypass}
use Rattle.terms.specs.Lookups.{IsZone}
use Rattle.terms.specs.Choice.{counting}
use Rattle.terms.specs.Candidates.{AreCandidates}
use Rattle.terms.specs.Tests.{owner_of, ChangesOwnedByAnother, Regresses, ShareElement, MayNotShare}
use Rattle.terms.specs.Judged.{setting}
use Rattle.store_schema.specs.Inventory.{empty_inventory}
use Rattle.machine.specs.Outcome.{Outcome}
use Rattle.machine.specs.State.{State}
use Rattle.machine.specs.Machine.{Act, Perform, Steps}
use Rattle.machine.specs.Runs.{Runs}
use Rattle.machine_laws.specs.Storable.{HasActForms}
use Rattle.terms.specs.Stream.{IsCleanFor, IsOfStream, HasAllFixes, HasOwners, ChecksRequisites}

-- The zone is of the stream and lacks no fix, and each element has the owner of the applied SYSMODs that change it.
pub record IsServed (g : Global) (zone : Zone) : Type 0 where
  pub of_stream : IsOfStream g (counting g zone []) zone
  pub fixes : HasAllFixes g (counting g zone []) zone
  pub owners : HasOwners g (counting g zone []) zone

-- all zones are
abbrev pub AreServed : State → Type 0
AreServed s = All (λ z. IsServed s.global z.zone) s.zones

-- The stream of each zone is clean.
abbrev pub HasCleanStreams : State → Type 0
HasCleanStreams s = All (λ z. IsCleanFor s.global z.zone.srel) s.zones

-- An APPLY or ACCEPT checks all requisites.
abbrev pub IsService : Command → Type 0
IsService (Apply i) = ChecksRequisites i.bypass
IsService (Accept i) = ChecksRequisites i.bypass
IsService _ = Unit {0}

abbrev pub IsServiceAct : Act → Type 0
IsServiceAct (Perform date files c) = IsService c
IsServiceAct _ = Unit {0}

-- an act of service, with clean streams before it and after it
pub record Serves (s : State) (a : Act) (t : State) (outcomes : List Outcome) : Type 0 where
  pub service : IsServiceAct a
  pub forms : HasActForms a
  pub steps : Steps s a t outcomes
  pub before : HasCleanStreams s
  pub after : HasCleanStreams t

-- the state without zones and without received SYSMODs
abbrev pub empty_state : State
empty_state = record { global = empty_inventory.global; zones = empty_inventory.zones; boundary = None }

-- ---- the laws

-- In such a zone no candidate that changes only elements of its own owner regresses one, and no two candidates of one
-- owner clash by an element.
abbrev pub ServedZonesPass : Type 0
ServedZonesPass =
    (g : Global) (zone : Zone) (related : Option Zone) (sel : Selection) (cands : List Id) (bypass : Bypass)
    → IsZone zone → AreCandidates g zone sel cands → IsCleanFor g zone.srel → IsServed g zone
    → (((x : Id) → Contains cands x → ¬ ChangesOwnedByAnother (setting g zone related cands bypass) x
    → ¬ Regresses (setting g zone related cands bypass) x)
    × ((x y : Id) → Contains cands x → Contains cands y → x ≢ y
    → owner_of (setting g zone related cands bypass) x ≡ owner_of (setting g zone related cands bypass) y
    → ShareElement g x y → ¬ MayNotShare (setting g zone related cands bypass) x y))

-- Whatever acts of service have run from the state without zones, all zones are of their streams and lack no fix.
abbrev pub ServiceServesAll : Type 0
ServiceServesAll =
    (acts : List Act) (t : State) (outcomes : List Outcome) → Runs Serves empty_state acts t outcomes → AreServed t
