use Rattle.std.proofs.Common.{List, inr, refl, subst}
use Rattle.sqlite_disk.specs.contracts.memory.MemoryDisk.TheImpl.{ghosts as memory_disk}
use Rattle.smpe_command.specs.Copied.{TriesCopied}
use Rattle.smpe_rehearsal.specs.Copied.{copy_jobs}
use Rattle.smpe_command.proofs.copied.rehearse_in_copy.Goals as goal

pub returns-in-Some : goal.returns-in-Some
returns-in-Some g c = rw c.in-Some.is (inr (
  c.in-Some.commands.date,
  refl,
  c.run_in_copy.ensures,
))

pub returns-in_ok-cntl-in-None : goal.returns-in_ok-cntl-in-None
returns-in_ok-cntl-in-None g c = rw c.in-None.is (inr (
  c.any_date.result,
  tt,
  subst (λ (cntl : List _). TriesCopied g.H.Host memory_disk g.O.Sink c.args.host.now c.args.copy.now
      c.args.out.now (copy_jobs c.any_date.result cntl
      (record { ptfin = c.args.files.ptfin.items; holds = c.args.files.hold.items }))
      c.run_in_copy-in-None.result c.run_in_copy-in-None.new.host c.run_in_copy-in-None.new.out)
      c.in_ok-cntl-in-None.ensures c.run_in_copy-in-None.ensures,
))
