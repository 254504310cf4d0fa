use Rattle.smpe_rehearsal.proofs.receiving.rehearse_package.Goals as goal

pub returns-in-Empty : goal.returns-in-Empty
returns-in-Empty c = rw c.in-Empty.is (c.args.prepared.now.jobs.date, c.receive_in_empty_system.ensures)

pub returns-in-Copied : goal.returns-in-Copied
returns-in-Copied c = rw c.in-Copied.is (c.args.prepared.now.jobs.date, c.receive_over_bytes.ensures)
