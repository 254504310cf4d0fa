use Rattle.std.proofs.Common.{List, map, subst}
use Rattle.std.specs.String.{string_bytes}
use Rattle.sqlite_disk.specs.contracts.memory.MemoryDisk.TheImpl.{ghosts as memory_disk}
use Rattle.smpe_command.specs.Serving.{ServesFiles}
use Rattle.smpe_command.proofs.checks.serve_check.Goals as goal

pub returns-in-Records : goal.returns-in-Records
returns-in-Records g c = rw c.in-Records.is c.serve_records.ensures

pub returns-in-AsTheyCome : goal.returns-in-AsTheyCome
returns-in-AsTheyCome g c =
    rw c.in-AsTheyCome.is (subst (λ (names : List _). ServesFiles g.H.Host memory_disk g.O.Sink c.args.host.now
    c.args.out.now c.args.system.now c.args.answer.now (map string_bytes names) c.args.set.now.commands
    c.serve_files.result c.serve_files.new.host c.serve_files.new.out) c.as_slice.ensures.value c.serve_files.ensures)
