use Rattle.std.proofs.Common.{◌∷◌, map, [], Err, None, refl, ap, subst}
use Rattle.std.specs.Io.KnownBytes.{Appends}
use Rattle.report.specs.Sent.{WrotePart}
use Rattle.cntl.specs.Views.{command_of}
use Rattle.cntl.specs.Faults.{FailsFile}
use Rattle.machine.specs.Machine.{RunFiles, Begin, Perform, Code, Files}
use Rattle.store.proofs.NoState.{loads_read}
use Rattle.smpe_jobs.specs.declared.error.JobError.TheVariants.{Write}
use Rattle.smpe_jobs.specs.Errors.{job_error}
use Rattle.store.proofs.GoingCalls.{is_later, follows_on}
use Rattle.smpe_jobs.proofs.Early.{ends_unbegun}
use Rattle.smpe.proofs.Reports.{sent_all, sent_part}
use Rattle.smpe.proofs.Single.{control_same, job_err, faulty_ran, faulty_broke, unbegun, begun}
use Rattle.smpe_jobs.proofs.Closing.{keeps_closed, job_closed}
use Rattle.smpe.specs.Going.{GoesCommands}
use Rattle.smpe.proofs.Going.{jobs_unbegun, job_early, begin_early, faulty_early, fails_by, faulty_goes, begun_goes}
use Rattle.smpe.proofs.job.run_job.Goals as goal

pub returns-in-Err-Memory-clause-ends : goal.returns-in-Err-Memory-clause-ends
returns-in-Err-Memory-clause-ends g c clean s keeps =
    ends_unbegun g.S.Store c.args.store.now c.args.store.now s (RunFiles c.args.date c.args.cntl.now
    (record { ptfin = c.args.ptfin.now; holds = c.args.hold.now }) ∷ []) (g.W.Sink.taken c.args.w.now) keeps

pub returns-in_err-write_report-in-Err-Fault-clause-ends : goal.returns-in_err-write_report-in-Err-Fault-clause-ends
returns-in_err-write_report-in-Err-Fault-clause-ends g c clean s keeps =
    let old = g.W.Sink.taken c.args.w.now in
    let new = g.W.Sink.taken c.write_report.new.w in
    job_err g.S.Store c.args.store.now c.args.store.now s (RunFiles c.args.date c.args.cntl.now
    (record { ptfin = c.args.ptfin.now; holds = c.args.hold.now })) old new Code c.from_residual.result Write
    c.from_residual.ensures.1
    (faulty_broke g.S.Store c.args.store.now c.args.store.now s c.args.date c.args.cntl.now
    (record { ptfin = c.args.ptfin.now; holds = c.args.hold.now })
    (record { number = c.in-Err-Fault.number; code = c.in-Err-Fault.code }) old new
    (subst (FailsFile c.args.cntl.now) c.in-Err-Fault.field-0-is c.in-Err-Fault.ensures.fault) keeps
    (subst (WrotePart old new) (control_same c.in-Err-Fault.number-is c.in-Err-Fault.code-is)
    (sent_part _ _ _ _ _ c.in_err-write_report-in-Err-Fault.ensures.sends
    c.in_err-write_report-in-Err-Fault.ensures.fault)))

pub returns-in-Err-Fault-clause-ends : goal.returns-in-Err-Fault-clause-ends
returns-in-Err-Fault-clause-ends g c clean s keeps =
    let old = g.W.Sink.taken c.args.w.now in
    let new = g.W.Sink.taken c.write_report.new.w in
    faulty_ran g.S.Store c.args.store.now c.args.store.now s c.args.date c.args.cntl.now
    (record { ptfin = c.args.ptfin.now; holds = c.args.hold.now })
    (record { number = c.in-Err-Fault.number; code = c.in-Err-Fault.code }) old new
    c.in_ok-write_report-in-Err-Fault.field-0 (subst (FailsFile c.args.cntl.now) c.in-Err-Fault.field-0-is
    c.in-Err-Fault.ensures.fault) keeps
    (subst (Appends old new) (control_same c.in-Err-Fault.number-is c.in-Err-Fault.code-is)
    (sent_all _ _ _ _ _ c.in_ok-write_report-in-Err-Fault.ensures.sends
    c.in_ok-write_report-in-Err-Fault.ensures.fault)) c.in_ok-write_report-in-Err-Fault.ensures.code

pub returns-in_err-session-clause-ends : goal.returns-in_err-session-clause-ends
returns-in_err-session-clause-ends g c clean s keeps =
    let taken = g.W.Sink.taken c.args.w.now in
    job_err g.S.Store c.args.store.now c.begin.new.store s (RunFiles c.args.date c.args.cntl.now
    (record { ptfin = c.args.ptfin.now; holds = c.args.hold.now })) taken taken Code
    c.from_residual-in_err-session.result (job_error c.in_err-session.field-0.0)
    c.from_residual-in_err-session.ensures.1
    (unbegun g.S.Store c.args.store.now c.begin.new.store s c.args.date c.args.cntl.now
    (record { ptfin = c.args.ptfin.now; holds = c.args.hold.now }) (map command_of c.in-Ok.commands.items) taken
    c.in_err-session.field-0.0
    c.in-Ok.ensures.commands (c.in_err-session.ensures.uses.ends clean s keeps))

pub returns-clause-ends : goal.returns-clause-ends
returns-clause-ends g c clean s keeps =
    let loaded = c.in_ok-session.ensures.uses.ends (c.run_commands.ensures.follows.clean clean) s keeps in
    let old = g.W.Sink.taken c.args.w.now in
    let new = g.W.Sink.taken c.run_commands.new.w in
    begun g.S.Store c.args.store.now c.run_commands.new.store s c.args.date c.args.cntl.now
    (record { ptfin = c.args.ptfin.now; holds = c.args.hold.now }) c.begin.new.store c.run_commands.new.session
    (map command_of c.in-Ok.commands.items) old new
    c.run_commands.result
    (is_later g.S.Store c.args.store.now c.begin.new.store c.begin.ensures.uses.goes.follows)
    c.in-Ok.ensures.commands loaded.1
    (rw c.deref.ensures.value at (c.run_commands.ensures.ends clean _ loaded.0 loaded.1))

-- ---- closed zones

pub returns-in-Err-Memory-clause-closed : goal.returns-in-Err-Memory-clause-closed
returns-in-Err-Memory-clause-closed g c clean s keeps closed =
    keeps_closed g.S.Store c.args.store.now clean s keeps closed

pub returns-in_err-write_report-in-Err-Fault-clause-closed : goal.returns-in_err-write_report-in-Err-Fault-clause-closed
returns-in_err-write_report-in-Err-Fault-clause-closed g c clean s keeps closed =
    keeps_closed g.S.Store c.args.store.now clean s keeps closed

pub returns-in-Err-Fault-clause-closed : goal.returns-in-Err-Fault-clause-closed
returns-in-Err-Fault-clause-closed g c clean s keeps closed =
    keeps_closed g.S.Store c.args.store.now clean s keeps closed

pub returns-in_err-session-clause-closed : goal.returns-in_err-session-clause-closed
returns-in_err-session-clause-closed g c clean s keeps closed =
    let taken = g.W.Sink.taken c.args.w.now in
    job_closed g.S.Store c.args.store.now c.begin.new.store s (c.begin.ensures.uses.goes.follows.clean clean) clean
    keeps closed
    (RunFiles c.args.date c.args.cntl.now (record { ptfin = c.args.ptfin.now; holds = c.args.hold.now })) taken taken
    Code c.from_residual-in_err-session.result c.attest.ensures
    (returns-in_err-session-clause-ends g c clean s keeps)

pub returns-clause-closed : goal.returns-clause-closed
returns-clause-closed g c clean s keeps closed =
    job_closed g.S.Store c.args.store.now c.run_commands.new.store s
    (c.begin.ensures.uses.goes.follows.clean (c.run_commands.ensures.follows.clean clean)) clean keeps closed
    (RunFiles c.args.date c.args.cntl.now (record { ptfin = c.args.ptfin.now; holds = c.args.hold.now }))
    (g.W.Sink.taken c.args.w.now) (g.W.Sink.taken c.run_commands.new.w) Code c.run_commands.result c.attest.ensures
    (returns-clause-ends g c clean s keeps)

-- ---- whatever the tables are

pub returns-in-Err-Memory-clause-goes : goal.returns-in-Err-Memory-clause-goes
returns-in-Err-Memory-clause-goes g c =
    jobs_unbegun g.S.Store c.args.store.now (RunFiles c.args.date c.args.cntl.now
    (record { ptfin = c.args.ptfin.now; holds = c.args.hold.now }) ∷ []) (g.W.Sink.taken c.args.w.now)

pub returns-in_err-write_report-in-Err-Fault-clause-goes : goal.returns-in_err-write_report-in-Err-Fault-clause-goes
returns-in_err-write_report-in-Err-Fault-clause-goes g c =
    let files : Files = record { ptfin = c.args.ptfin.now; holds = c.args.hold.now } in
    let old = g.W.Sink.taken c.args.w.now in
    let new = g.W.Sink.taken c.write_report.new.w in
    job_early g.S.Store c.args.store.now c.args.store.now (RunFiles c.args.date c.args.cntl.now files) old new Code
    c.from_residual.result Write c.from_residual.ensures.1
    (faulty_early g.S.Store c.args.date c.args.cntl.now files c.args.store.now
    (record { number = c.in-Err-Fault.number; code = c.in-Err-Fault.code }) old new
    (subst (FailsFile c.args.cntl.now) c.in-Err-Fault.field-0-is c.in-Err-Fault.ensures.fault)
    (subst (WrotePart old new) (control_same c.in-Err-Fault.number-is c.in-Err-Fault.code-is)
    (sent_part _ _ _ _ _ c.in_err-write_report-in-Err-Fault.ensures.sends
    c.in_err-write_report-in-Err-Fault.ensures.fault)))

pub returns-in-Err-Fault-clause-goes : goal.returns-in-Err-Fault-clause-goes
returns-in-Err-Fault-clause-goes g c =
    let old = g.W.Sink.taken c.args.w.now in
    let new = g.W.Sink.taken c.write_report.new.w in
    faulty_goes g.S.Store c.args.date c.args.cntl.now (record { ptfin = c.args.ptfin.now; holds = c.args.hold.now })
    c.args.store.now (record { number = c.in-Err-Fault.number; code = c.in-Err-Fault.code }) old new
    c.in_ok-write_report-in-Err-Fault.field-0
    (subst (FailsFile c.args.cntl.now) c.in-Err-Fault.field-0-is c.in-Err-Fault.ensures.fault)
    (subst (Appends old new) (control_same c.in-Err-Fault.number-is c.in-Err-Fault.code-is)
    (sent_all _ _ _ _ _ c.in_ok-write_report-in-Err-Fault.ensures.sends
    c.in_ok-write_report-in-Err-Fault.ensures.fault)) c.in_ok-write_report-in-Err-Fault.ensures.code

pub returns-in_err-session-clause-goes : goal.returns-in_err-session-clause-goes
returns-in_err-session-clause-goes g c =
    let old = c.args.store.now in
    let new = c.begin.new.store in
    let files : Files = record { ptfin = c.args.ptfin.now; holds = c.args.hold.now } in
    let taken = g.W.Sink.taken c.args.w.now in
    let e = c.in_err-session.field-0.0 in
    let at = c.in_err-session.ensures in
    job_early g.S.Store old new (RunFiles c.args.date c.args.cntl.now files) taken taken Code
    c.from_residual-in_err-session.result (job_error e) c.from_residual-in_err-session.ensures.1
    (begin_early g.S.Store c.args.date c.args.cntl.now files old new (map command_of c.in-Ok.commands.items) taken
    (job_error e) c.in-Ok.ensures.commands
    (fails_by g.S.Store (λ own. ⊥) (old, None) new Begin taken e e (λ change none. none)
    at.uses.goes.over (λ clean is. at.uses.goes.none clean (ap Err is)) (λ is. at.uses.goes.which (ap Err is))))

pub returns-clause-goes : goal.returns-clause-goes
returns-clause-goes g c =
    let old = c.args.store.now in
    let at = c.begin.new.store in
    let began = c.in_ok-session.ensures in
    let new = c.run_commands.new.store in
    let boundary = c.run_commands.new.session.boundary in
    let files : Files = record { ptfin = c.args.ptfin.now; holds = c.args.hold.now } in
    let acts = map (Perform c.args.date files) (map command_of c.in-Ok.commands.items) in
    begun_goes g.S.Store c.args.date c.args.cntl.now files old at new boundary (map command_of c.in-Ok.commands.items)
    (g.W.Sink.taken c.args.w.now) (g.W.Sink.taken c.run_commands.new.w) c.run_commands.result c.in-Ok.ensures.commands (
      loads_read g.S.Store old at _ began.reads,
      refl,
      refl,
      λ clean. (c.in_ok-session.session.global, began.rows clean),
    )
    (subst (λ begun. GoesCommands g.S.Store (at, begun) (new, boundary) acts (g.W.Sink.taken c.args.w.now)
    (g.W.Sink.taken c.run_commands.new.w) c.run_commands.result) began.boundary
    (rw c.deref.ensures.value at c.run_commands.ensures.goes))

-- ---- the store behind it

pub returns-in_err-session-clause-follows : goal.returns-in_err-session-clause-follows
returns-in_err-session-clause-follows g c = c.begin.ensures.uses.goes.follows

pub returns-clause-follows : goal.returns-clause-follows
returns-clause-follows g c =
    follows_on g.S.Store c.args.store.now c.begin.new.store c.run_commands.new.store
    c.begin.ensures.uses.goes.follows c.run_commands.ensures.follows
