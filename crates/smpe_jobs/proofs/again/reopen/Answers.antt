use Rattle.std.proofs.Common.{arith}
use Rattle.sqlite.specs.Files.{over_files}
use Rattle.smpe_jobs.proofs.Found.{goes_on}
use Rattle.smpe_jobs.proofs.again.reopen.Goals as goal

pub returns-in-Ok : goal.returns-in-Ok
returns-in-Ok g c clean =
    let before = c.in_ok-new_conn.ensures.shows (omega (arith, c.in-Ok.ensures.crash.clean, clean)) in
    goes_on over_files over_files c.args.conn c.in_ok-new_conn.new_conn c.in-Ok.store before.0 before.1
    c.in-Ok.ensures.tables c.in-Ok.ensures.leaves
