use Rattle.smpe_rehearsal.proofs.asking.ask_about_package.Goals as goal

pub returns-in-Empty : goal.returns-in-Empty
returns-in-Empty g c = rw c.in-Empty.is c.try_in_empty_system.ensures

pub returns-in-Copied : goal.returns-in-Copied
returns-in-Copied g c = rw c.in-Copied.is (c.args.prepared.now.jobs.date, c.run_over_bytes.ensures)
