-- REJECT leads from an inventory to an inventory.
use Rattle.std.proofs.Common.{List, sym, subst}
use Rattle.terms.specs.Types.{Id, Global}
use Rattle.store_schema.specs.Inventory.{Inventory, IsInventory}
use Rattle.machine.specs.Outcome.{Line}
use Rattle.machine.specs.Rejecting.{RejectsId}
use Rattle.machine.specs.Runs.{Runs}
use Rattle.machine_laws.proofs.Lists.{each_alike}
use Rattle.machine_laws.proofs.GlobalForms.{HasGlobalForms, global_forms, with_global, runs_forms, rejected_forms}

-- Whatever the zones have applied: the invariants do not tie their entries to what is received.
pub reject_forms : (ids : List Id) (i : Inventory) (new : Global) (lines : List Line) → IsInventory i
    → Runs (RejectsId i.zones) i.global ids new lines
    → IsInventory (record i { global = new })
reject_forms ids i new lines is runs =
    with_global i new is
    (runs_forms (RejectsId i.zones) (λ x. Unit {0}) (λ g new x lines any has takes.
    subst HasGlobalForms (sym takes.0) (rejected_forms g i.zones x has))
    ids i.global new lines (each_alike (Unit {0}) tt ids) (global_forms i is) runs)
