-- APPLY and ACCEPT keep a closed zone.
use Rattle.std.proofs.Common.{List, [], Option, All}
use Rattle.terms.specs.Types.{Text, Global, Zone, Selection, Bypass}
use Rattle.terms.specs.Lookups.{IsZone}
use Rattle.terms.specs.Choice.{counting}
use Rattle.terms.specs.Texts.{HasForm}
use Rattle.terms.specs.Forms.{IsDottedDate}
use Rattle.terms.specs.Install.{HasInstalled}
use Rattle.terms.specs.Closed.{IsClosedZone}
use Rattle.store_schema.specs.Forms.{HasSysmodForms, HasZoneForms}
use Rattle.store_schema.specs.Inventory.{Inventory, IsInventory}
use Rattle.machine.specs.Outcome.{Line}
use Rattle.machine.specs.Installing.{Decision, IsDecision, InstallsSelected}
use Rattle.machine_laws.proofs.Decisions.{decision_forms}
use Rattle.machine_laws.proofs.InstallForms.{installed_forms}
use Rattle.machine_laws.proofs.AlikeSysmods.{closed_by}
use Rattle.machine_laws.proofs.Given.{choice_after}
use Rattle.machine_laws.proofs.Installs.{IsInstall}
use Rattle.machine_laws.proofs.Supported.{installed_supported}
use Rattle.machine_laws.proofs.Peaceful.{install_keeps_peace, install_keeps_supby}
use Rattle.machine_laws.proofs.Owned.{install_keeps_owned}
use Rattle.machine_laws.proofs.TextForms.{text_form}

-- The texts of the new zone have their forms, as those of the old one and of received SYSMODs have.
installed_texts : (g : Global) (zone : Zone) (related : Option Zone) (sel : Selection) (bypass : Bypass) (date : Text)
    (d : Decision) (new : Zone) → IsDecision g zone related sel bypass date d → HasInstalled d.installing new
    → All HasSysmodForms g.sysmods → HasZoneForms zone → IsDottedDate date
    → All (λ e. HasForm e.elem_type e.text) new.elements
installed_texts g zone related sel bypass date d new decides installs sysmods forms dated =
    let given = decision_forms g sysmods zone forms related sel bypass date dated d decides in
    let after = installed_forms d.installing given new installs in
    λ j e below. text_form _ _ (after.elements j e below).text

-- An install leads from a closed zone to a closed one. Of the forms of SYSMODs it takes that none names itself in NPRE.
pub install_keeps_closed : (g : Global) (zone : Zone) (related : Option Zone) (sel : Selection) (bypass : Bypass)
    (date : Text) (d : Decision) (new : Zone) → IsInstall g zone related sel bypass date d new
    → All HasSysmodForms g.sysmods → All (λ e. HasForm e.elem_type e.text) new.elements
    → IsClosedZone g (counting g new []) new
install_keeps_closed g zone related sel bypass date d new is sysmods texts =
    closed_by g (counting g zone is.decides.cands) (counting g new []) new (record {
      supported = installed_supported g zone related sel bypass date d new is;
      at_peace = install_keeps_peace g zone related sel bypass date d new is sysmods;
      supby = install_keeps_supby g zone related sel bypass date d new is;
      elements = install_keeps_owned g zone related sel bypass date d new is texts;
    })
    (choice_after g zone related sel bypass date d new is)

-- So do APPLY and ACCEPT in a zone of an inventory.
pub apply_keeps_closed : (i : Inventory) (zone : Zone) (related : Option Zone) (sel : Selection) (bypass : Bypass)
    (date : Text) (new : Zone) (lines : List Line) → IsInventory i → IsZone zone → HasZoneForms zone
    → IsDottedDate date → InstallsSelected i.global zone related sel bypass date new lines
    → IsClosedZone i.global (counting i.global zone []) zone → IsClosedZone i.global (counting i.global new []) new
apply_keeps_closed i zone related sel bypass date new lines is is_zone forms dated installs closed =
    install_keeps_closed i.global zone related sel bypass date installs.decision new (record {
      global = is.global;
      is_zone = is_zone;
      decides = installs.decides;
      installs = installs.installs;
      closed = closed;
    }) is.sysmods
    (installed_texts i.global zone related sel bypass date installs.decision new installs.decides installs.installs
    is.sysmods forms dated)
