use Rattle.terms.proofs.Updates.{update_no_fault}
use Rattle.store_sysmods.proofs.elem.parse_update.Goals as goal

pub returns-in-Err-Fault-clause-none : goal.returns-in-Err-Fault-clause-none
returns-in-Err-Fault-clause-none c bad update =
    let fault = rw c.in-Err-Fault.field-0-is at c.in-Err-Fault.ensures.fault in
    update_no_fault c.args.name.now c.args.records.items c.in-Err-Fault.field-0-0 update fault
