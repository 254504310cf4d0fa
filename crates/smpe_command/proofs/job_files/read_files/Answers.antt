use Rattle.std.proofs.Common.{refl}
use Rattle.smpe_command.proofs.job_files.read_files.Goals as goal

pub returns-clause-ok : goal.returns-clause-ok
returns-clause-ok g c = (
  c.read_file.new.host,
  c.in_ok-cntl.ensures.ok,
  (
    c.read_file-2.new.host,
    c.in_ok-ptfin.ensures.ok,
    (c.read_file-3.new.host, c.in_ok-hold.ensures.ok, (refl, refl)),
  ),
)
