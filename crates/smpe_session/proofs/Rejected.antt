-- What REJECT leads to.
use Rattle.std.proofs.Common.{◌≡◌, List, None, Some, refl, sym, subst, inr}
use Rattle.terms.specs.Types.{Text, Id, Global, Reject}
use Rattle.store_schema.specs.Inventory.{IsInventory}
use Rattle.machine.specs.Runs.{Runs}
use Rattle.machine.specs.Rejecting.{RejectsId}
use Rattle.machine.specs.Outcome.{Header, Line}
use Rattle.machine.specs.State.{State, global_name, misplaced}
use Rattle.machine.specs.Machine.{Files}
use Rattle.sysmods.specs.declared.edit.GlobalEdit.{GlobalEdit}
use Rattle.sysmods.specs.Edits.{EachFits, after_edits}
use Rattle.store.specs.declared.change.Change.{Change}
use Rattle.store.specs.declared.change.Change.TheVariants as changes
use Rattle.store.specs.Kept.{kept}
use Rattle.store.specs.Own.{IsRejected}
use Rattle.smpe_session.specs.Writing.{IsAtBoundary}
use Rattle.machine_laws.proofs.RejectingForms.{reject_forms}
use Rattle.smpe_session.proofs.Leading.{LeadsBy, leads_by}

-- it changes the global zone alone
pub rejected_here : (change : Change) (header : Header) → IsRejected change → header.boundary ≡ Some global_name
    → IsAtBoundary change header
rejected_here (changes.Global stated edits) header own at = at
rejected_here (changes.Zone name delta) header own at = absurd own
rejected_here (changes.NewZone name kind srel related) header own at = absurd own

pub rejected : (date : Text) (files : Files) (ids : List Id) (s : State) (old new : Global) (edits : List GlobalEdit)
    (lines : List Line)
    → s.global ≡ old → IsInventory (kept s) → misplaced s (Reject ids) ≡ None
    → Runs (RejectsId s.zones) old ids new lines → EachFits new edits old → after_edits new edits old ≡ new
    → LeadsBy date files (Reject ids) s new edits lines
rejected date files ids s old new edits lines global is at runs_old fits after =
    let runs = subst (λ k. Runs (RejectsId s.zones) k ids new lines) (sym global) runs_old in
    leads_by date files (Reject ids) s old new edits lines global fits after
    (reject_forms ids (kept s) new lines is runs)
    (inr (at, record { new = new; lines = lines; runs = runs; state = refl; prints = refl }))
