-- What a clean stream promises for an APPLY or ACCEPT in a zone of it, by the ++VERs that count for the command.
-- Nothing is said of a BYPASS of requisites, or of candidates that fail the tests OwnedByAnother and NothingToUpdate.
use Rattle.std.specs.Prelude.{◌≡◌, ◌≢◌, List, [], Option, Contains}
use Rattle.terms.specs.Types.{Date, Id, Global, Zone, NamedZone, Selection, Bypass}
use Rattle.terms.specs.Lookups.{IsZone}
use Rattle.terms.specs.Choice.{counting}
use Rattle.terms.specs.Forms.{IsDottedDate}
use Rattle.terms.specs.Candidates.{AreCandidates}
use Rattle.terms.specs.Tests.{owner_of, ChangesOwnedByAnother, Regresses, ShareElement, MayNotShare}
use Rattle.terms.specs.Judged.{setting}
use Rattle.terms.specs.Install.{HasInstalled}
use Rattle.store_schema.specs.Inventory.{Inventory, IsInventory}
use Rattle.machine.specs.Installing.{Decision, IsDecision}
use Rattle.terms.specs.Stream.{IsClean, IsOfStream, HasAllFixes, HasOwners, ChecksRequisites}

-- Two candidates of one owner do not clash by an element that both change.
abbrev pub NeverClashesByElement : Type 0
NeverClashesByElement =
    (g : Global) (zone : Zone) (related : Option Zone) (sel : Selection) (cands : List Id) (bypass : Bypass)
    → IsZone zone → AreCandidates g zone sel cands → IsClean g (counting g zone cands)
    → (x y : Id) → Contains cands x → Contains cands y → x ≢ y
    → owner_of (setting g zone related cands bypass) x ≡ owner_of (setting g zone related cands bypass) y
    → ShareElement g x y → ¬ MayNotShare (setting g zone related cands bypass) x y

-- A candidate that changes no element of another owner regresses none.
abbrev pub NeverRegresses : Type 0
NeverRegresses =
    (g : Global) (zone : Zone) (related : Option Zone) (sel : Selection) (cands : List Id) (bypass : Bypass)
    → IsZone zone → AreCandidates g zone sel cands → IsClean g (counting g zone cands)
    → IsOfStream g (counting g zone []) zone
    → (x : Id) → Contains cands x → ¬ ChangesOwnedByAnother (setting g zone related cands bypass) x
    → ¬ Regresses (setting g zone related cands bypass) x

-- An APPLY or ACCEPT that checks all requisites leaves the zone of the stream.
abbrev pub InstallStaysOfStream : Type 0
InstallStaysOfStream =
    (i : Inventory) (z : NamedZone) (related : Option Zone) (sel : Selection) (bypass : Bypass) (date : Date)
    (d : Decision) (new : Zone) → IsInventory i → Contains i.zones z → IsDottedDate date
    → IsDecision i.global z.zone related sel bypass date d → HasInstalled d.installing new → ChecksRequisites bypass
    → IsClean i.global d.setting.choice → IsOfStream i.global (counting i.global z.zone []) z.zone
    → IsOfStream i.global (counting i.global new []) new

-- An APPLY or ACCEPT loses no fix: if each element had the owner of the applied SYSMODs that change it, and the zone
-- lacked no fix, it lacks none after the command, among them those that the command brought.
abbrev pub InstallLosesNoFix : Type 0
InstallLosesNoFix =
    (i : Inventory) (z : NamedZone) (related : Option Zone) (sel : Selection) (bypass : Bypass) (date : Date)
    (d : Decision) (new : Zone) → IsInventory i → Contains i.zones z
    → IsDecision i.global z.zone related sel bypass date d → HasInstalled d.installing new
    → IsClean i.global d.setting.choice → IsOfStream i.global (counting i.global z.zone []) z.zone
    → HasOwners i.global d.setting.choice z.zone → HasAllFixes i.global d.setting.choice z.zone
    → HasOwners i.global d.setting.choice new × HasAllFixes i.global d.setting.choice new
