use Rattle.std.proofs.Common.{List, inr, subst}
use Rattle.sqlite_disk.specs.contracts.memory.MemoryDisk.TheImpl.{ghosts as memory_disk}
use Rattle.smpe_rehearsal.specs.Copied.{TriesBytes, copy_jobs}
use Rattle.smpe_command.proofs.copied.run_in_copy.Goals as goal

pub returns : goal.returns
returns g c =
    let bytes = c.in_ok-bytes.bytes in
    let rehearsal = c.args.rehearsal.now in
    inr (
      bytes.db.items,
      bytes.log.items,
      c.in_ok-bytes.ensures.ok,
      subst (λ (ids : List _). TriesBytes memory_disk g.O.Sink c.args.copy.now.zone ids bytes.db.items bytes.log.items
          (copy_jobs rehearsal.date rehearsal.files.cntl.items
          (record { ptfin = rehearsal.files.ptfin.items; holds = rehearsal.files.hold.items })) c.args.out.now
          c.run_over_bytes.result c.run_over_bytes.new.out) c.as_slice.ensures.value c.run_over_bytes.ensures,
    )
