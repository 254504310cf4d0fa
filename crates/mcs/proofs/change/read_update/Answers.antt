use Rattle.std.proofs.Common.{refl}
use Rattle.mcs.proofs.Changing.{not_update}
use Rattle.mcs.proofs.change.read_update.Goals as goal

pub returns-in-Err-Fault-clause-bad : goal.returns-in-Err-Fault-clause-bad
returns-in-Err-Fault-clause-bad c =
    let fault = rw (c.in-Err-Fault.field-0-is, c.as_bytes.ensures.same) at c.in-Err-Fault.ensures.fault in (
      refl,
      not_update c.args.name c.args.inline.now c.in_ok-lines.lines.items c.in-Err-Fault.field-0-0
          c.in_ok-lines.ensures fault,
    )
