-- What an APPLY or ACCEPT makes of a zone of a clean stream: it stays of the stream, and keeps its fixes.
use Rattle.std.proofs.Common.{◌≡◌, List, [], Option, All, Contains, IsTrue, sym, ap, subst}
use Rattle.std.proofs.lemmas.List.Elements.{All-contains}
use Rattle.terms.specs.Types.{Text, Id, Zone, Selection, Bypass, NamedZone}
use Rattle.terms.specs.Lookups.{is_applied}
use Rattle.terms.specs.Choice.{counting}
use Rattle.terms.specs.Tests.{Setting}
use Rattle.terms.specs.Install.{HasInstalled}
use Rattle.terms.specs.Texts.{HasForm}
use Rattle.terms.specs.Forms.{IsDottedDate}
use Rattle.terms.proofs.Applied.{in_applied_ids}
use Rattle.store_schema.specs.Inventory.{Inventory, IsInventory, IsZoneNamed}
use Rattle.machine.specs.Installing.{Decision, IsDecision}
use Rattle.machine_laws.proofs.AlikeSysmods.{closed_by}
use Rattle.machine_laws.proofs.AppliedIds.{applied_in_ids}
use Rattle.machine_laws.proofs.Decisions.{decision_forms}
use Rattle.machine_laws.proofs.Given.{Keeps, decided, installing, kept_set, keeps, installed, bypassed_for}
use Rattle.machine_laws.proofs.Given.{choice_after}
use Rattle.machine_laws.proofs.InstallForms.{installed_forms}
use Rattle.machine_laws.proofs.InstallKeeps.{install_keeps_closed}
use Rattle.machine_laws.proofs.Installs.{IsInstall}
use Rattle.machine_laws.proofs.TextForms.{text_form}
use Rattle.terms.specs.Stream.{IsClean, IsOfStream, HasAllFixes, HasOwners, ChecksRequisites}
use Rattle.stream_laws.specs.Laws.{InstallStaysOfStream, InstallLosesNoFix}
use Rattle.stream_laws.proofs.NoRegression.{of_stream_by, of_stream_whatever}
use Rattle.stream_laws.proofs.StaysOfStream.{stays_of_stream}
use Rattle.stream_laws.proofs.AllFixes.{keeps_fixes, keeps_owners}

module _ (i : Inventory) (z : NamedZone) (related : Option Zone) (sel : Selection) (bypass : Bypass) (date : Text)
    (d : Decision) (new : Zone) (inventory : IsInventory i) (there : Contains i.zones z)
    (decides : IsDecision i.global z.zone related sel bypass date d) (installs : HasInstalled d.installing new)
    (clean : IsClean i.global d.setting.choice) (is : IsOfStream i.global (counting i.global z.zone []) z.zone) where
  named : IsZoneNamed z
  named = All-contains IsZoneNamed i.zones z inventory.zones there

  install : IsInstall i.global z.zone related sel bypass date d new
  install = record {
    global = inventory.global;
    is_zone = named.zone;
    decides = decides;
    installs = installs;
    closed = is.closed;
  }

  abbrev s : Setting
  s = decided i.global z.zone related sel bypass date d new install

  abbrev survivors : List Id
  survivors = (kept_set i.global z.zone related sel bypass date d new install).survivors

  chosen : d.setting.choice ≡ s.choice
  unfolding install
  chosen = ap (λ (t : Setting). t.choice) decides.setting

  clean_by : IsClean i.global s.choice
  clean_by = subst (IsClean i.global) chosen clean

  of_stream : IsOfStream i.global s.choice z.zone
  unfolding install
  of_stream = of_stream_whatever i.global z.zone [] decides.cands named.zone is

  -- the texts of the new zone have their forms
  texts : IsDottedDate date → All (λ e. HasForm e.elem_type e.text) new.elements
  texts dated =
      let given = decision_forms i.global inventory.sysmods z.zone named.forms related sel bypass date dated d decides
      in
      let after = installed_forms d.installing given new installs in
      λ j e below. text_form _ _ (after.elements j e below).text

  pub installed_of_stream : IsDottedDate date → ChecksRequisites bypass
      → IsOfStream i.global (counting i.global new []) new
  unfolding install
  installed_of_stream dated checks =
      of_stream_by i.global s.choice (counting i.global new []) new installs.is_zone same
      (stays_of_stream s survivors d.kept
      (keeps i.global z.zone related sel bypass date d new install) decides.bypassed date new
      (installed i.global z.zone related sel bypass date d new install)
      (bypassed_for i.global z.zone related sel bypass date d new install) checks clean_by.requisites of_stream
      (closed_by i.global (counting i.global new []) s.choice new
      (install_keeps_closed i.global z.zone related sel bypass date d new install inventory.sysmods
      (texts dated)) (λ x applied. sym (same x (applied_in_ids new installs.is_zone x applied)))))
    where
      same : (x : Id) → IsTrue (is_applied new x) → s.choice x ≡ counting i.global new [] x
      same x on = choice_after i.global z.zone related sel bypass date d new install x (in_applied_ids new x on)

  pub installed_fixes : HasOwners i.global d.setting.choice z.zone → HasAllFixes i.global d.setting.choice z.zone
      → HasOwners i.global d.setting.choice new × HasAllFixes i.global d.setting.choice new
  unfolding install
  installed_fixes owners fixes =
      subst (λ c. HasOwners i.global c new × HasAllFixes i.global c new) (sym chosen) (
        keeps_owners s survivors d.kept k decides.bypassed date new now clean_by of_stream own have,
        keeps_fixes s survivors d.kept k decides.bypassed date new now clean_by of_stream own have,
      )
    where
      k : Keeps s survivors d.kept
      k = keeps i.global z.zone related sel bypass date d new install

      now : HasInstalled (installing s d.kept decides.bypassed date) new
      now = installed i.global z.zone related sel bypass date d new install

      own : HasOwners i.global s.choice z.zone
      own = subst (λ c. HasOwners i.global c z.zone) chosen owners

      have : HasAllFixes i.global s.choice z.zone
      have = subst (λ c. HasAllFixes i.global c z.zone) chosen fixes

-- ---- the laws

pub install_stays_of_stream : InstallStaysOfStream
install_stays_of_stream i z related sel bypass date d new inventory there dated decides installs checks clean is =
    installed_of_stream i z related sel bypass date d new inventory there decides installs clean is dated checks

pub install_loses_no_fix : InstallLosesNoFix
install_loses_no_fix i z related sel bypass date d new inventory there decides installs clean is =
    installed_fixes i z related sel bypass date d new inventory there decides installs clean is
