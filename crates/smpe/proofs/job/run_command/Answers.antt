use Rattle.std.proofs.Common.{◌≡◌, [], ◌∷◌, Err, refl, sym, ap, subst}
use Rattle.terms.specs.Types.{ListZone}
use Rattle.machine.specs.Machine.{Perform, Performs}
use Rattle.cntl.specs.Views.{command_of}
use Rattle.report.specs.Views.{outcome_view}
use Rattle.smpe_jobs.specs.declared.error.JobError.TheVariants.{Write}
use Rattle.smpe_jobs.specs.Errors.{job_error}
use Rattle.smpe.proofs.Reports.{sent_all, sent_part}
use Rattle.smpe.proofs.Commanding.{commands_err, reported}
use Rattle.smpe_jobs.proofs.Early.{failed_first, broke_first}
use Rattle.store.specs.Own.{IsOwnOf}
use Rattle.smpe_session.specs.Writing.{AnswersOf, AnswersRun, IsOutcomeOf, boundary_after}
use Rattle.smpe.proofs.Going.{placed, goes_one, early_first, fails_by, fails_told, performs_passes, goes_early}
use Rattle.smpe.proofs.job.run_command.Goals as goal

pub returns-in_err-performed-clause-ends : goal.returns-in_err-performed-clause-ends
returns-in_err-performed-clause-ends g c clean s is keeps =
    let at = c.perform.new.store in
    let session = c.perform.new.session in
    let command = command_of c.args.command.now in
    let taken = g.W.Sink.taken c.args.w.now in
    commands_err g.S.Store c.args.input.now.date c.args.input.now.files c.args.store.now at s session
    (command ∷ []) taken taken
    c.from_residual.result
    (job_error c.in_err-performed.field-0.0) c.from_residual.ensures.1
    (failed_first g.S.Store c.args.store.now at s (Perform c.args.input.now.date c.args.input.now.files command) []
    taken
    c.in_err-performed.field-0.0 (c.in_err-performed.ensures.uses.ends clean s keeps is))

pub returns-in_err-write_report-in-Told-clause-ends : goal.returns-in_err-write_report-in-Told-clause-ends
returns-in_err-write_report-in-Told-clause-ends g c clean s is keeps =
    let at = c.perform.new.store in
    let session = c.perform.new.session in
    let command = command_of c.args.command.now in
    let old = g.W.Sink.taken c.args.w.now in
    let new = g.W.Sink.taken c.write_report.new.w in
    let p = rw c.in-Told.is at (c.in_ok-performed.ensures.uses.ends clean s keeps is) in
    commands_err g.S.Store c.args.input.now.date c.args.input.now.files c.args.store.now at s session
    (command ∷ []) old new
    c.from_residual-in_err-write_report-in-Told.result Write c.from_residual-in_err-write_report-in-Told.ensures.1
    (broke_first g.S.Store c.args.store.now at s (Perform c.args.input.now.date c.args.input.now.files command) p.0
    (outcome_view c.in-Told.outcome) old new (outcome_view c.in-Told.outcome, p.1, refl) p.3
    (sent_part _ _ _ _ _ c.in_err-write_report-in-Told.ensures.sends c.in_err-write_report-in-Told.ensures.fault))

pub returns-in_ok-write_report-in-Told-clause-ends : goal.returns-in_ok-write_report-in-Told-clause-ends
returns-in_ok-write_report-in-Told-clause-ends g c clean s is keeps =
    let p = rw c.in-Told.is at (c.in_ok-performed.ensures.uses.ends clean s keeps is) in
    reported g.S.Store c.args.input.now.date c.args.input.now.files c.args.store.now c.perform.new.store s p.0
    c.perform.new.session
    (command_of c.args.command.now) (outcome_view c.in-Told.outcome)
    (g.W.Sink.taken c.args.w.now) (g.W.Sink.taken c.write_report.new.w) _ p.1 p.2 p.3
    (sent_all _ _ _ _ _ c.in_ok-write_report-in-Told.ensures.sends c.in_ok-write_report-in-Told.ensures.fault)
    c.in_ok-write_report-in-Told.ensures.code

pub returns-in_err-write_report-in-Lists-clause-ends : goal.returns-in_err-write_report-in-Lists-clause-ends
returns-in_err-write_report-in-Lists-clause-ends g c clean s is keeps =
    let at = c.perform.new.store in
    let session = c.perform.new.session in
    let command = command_of c.args.command.now in
    let old = g.W.Sink.taken c.args.w.now in
    let new = g.W.Sink.taken c.write_report-in-Lists.new.w in
    let p = rw c.in-Lists.is at (c.in_ok-performed.ensures.uses.ends clean s keeps is) in
    let performs = subst (λ d. Performs c.args.input.now.date c.args.input.now.files s d s
    (outcome_view c.list.result)) (sym p.0)
    (c.list.ensures.performs s p.1 c.args.input.now.date c.args.input.now.files) in
    commands_err g.S.Store c.args.input.now.date c.args.input.now.files c.args.store.now at s session
    (command ∷ []) old new
    c.from_residual-in_err-write_report-in-Lists.result Write c.from_residual-in_err-write_report-in-Lists.ensures.1
    (broke_first g.S.Store c.args.store.now at s (Perform c.args.input.now.date c.args.input.now.files command) s
    (outcome_view c.list.result) old new (outcome_view c.list.result, performs, refl) p.2
    (sent_part _ _ _ _ _ c.in_err-write_report-in-Lists.ensures.sends c.in_err-write_report-in-Lists.ensures.fault))

pub returns-in_ok-write_report-in-Lists-clause-ends : goal.returns-in_ok-write_report-in-Lists-clause-ends
returns-in_ok-write_report-in-Lists-clause-ends g c clean s is keeps =
    let p = rw c.in-Lists.is at (c.in_ok-performed.ensures.uses.ends clean s keeps is) in
    let performs = subst (λ d. Performs c.args.input.now.date c.args.input.now.files s d s
    (outcome_view c.list.result)) (sym p.0)
    (c.list.ensures.performs s p.1 c.args.input.now.date c.args.input.now.files) in
    reported g.S.Store c.args.input.now.date c.args.input.now.files c.args.store.now c.perform.new.store s s
    c.perform.new.session
    (command_of c.args.command.now) (outcome_view c.list.result)
    (g.W.Sink.taken c.args.w.now) (g.W.Sink.taken c.write_report-in-Lists.new.w) _ performs p.1 p.2
    (sent_all _ _ _ _ _ c.in_ok-write_report-in-Lists.ensures.sends c.in_ok-write_report-in-Lists.ensures.fault)
    c.in_ok-write_report-in-Lists.ensures.code

-- ---- whatever the tables are

pub returns-in_err-performed-clause-goes : goal.returns-in_err-performed-clause-goes
returns-in_err-performed-clause-goes g c =
    let old = placed c.args.store.now c.args.session.now.boundary in
    let new = placed c.perform.new.store c.perform.new.session.boundary in
    let command = command_of c.args.command.now in
    let act = Perform c.args.input.now.date c.args.input.now.files command in
    let taken = g.W.Sink.taken c.args.w.now in
    let e = c.in_err-performed.field-0.0 in
    let at = c.in_err-performed.ensures.uses.goes in
    goes_early g.S.Store old new (act ∷ []) taken taken c.from_residual.result (job_error e) c.from_residual.ensures.1
    (early_first g.S.Store old new.0 act [] taken taken (job_error e)
    (fails_by g.S.Store (λ own. IsOwnOf command own × Unit {0}) old new.0 act taken e e (λ change own. own.0) at.over
    (λ clean is. at.none clean (ap Err is)) (λ is. at.which (ap Err is))))

pub returns-in_err-write_report-in-Told-clause-goes : goal.returns-in_err-write_report-in-Told-clause-goes
returns-in_err-write_report-in-Told-clause-goes g c =
    let old = placed c.args.store.now c.args.session.now.boundary in
    let new = placed c.perform.new.store c.perform.new.session.boundary in
    let command = command_of c.args.command.now in
    let act = Perform c.args.input.now.date c.args.input.now.files command in
    let a = g.W.Sink.taken c.args.w.now in
    let b = g.W.Sink.taken c.write_report.new.w in
    let outcome = outcome_view c.in-Told.outcome in
    let answers = subst (AnswersOf command old.1 new.1) c.in-Told.is c.in_ok-performed.ensures.header in
    goes_early g.S.Store old new (act ∷ []) a b c.from_residual-in_err-write_report-in-Told.result Write
    c.from_residual-in_err-write_report-in-Told.ensures.1
    (early_first g.S.Store old new.0 act [] a b Write
    (fails_told g.S.Store old new act outcome a b
    (performs_passes g.S.Store old new c.args.input.now.date c.args.input.now.files command c.in_ok-performed.performed
    outcome
    answers.0 answers.1
    (λ change ran. subst (AnswersRun change) c.in-Told.is ran) c.in_ok-performed.ensures.uses.goes.over)
    (sent_part _ _ _ _ _ c.in_err-write_report-in-Told.ensures.sends c.in_err-write_report-in-Told.ensures.fault)))

pub returns-in_ok-write_report-in-Told-clause-goes : goal.returns-in_ok-write_report-in-Told-clause-goes
returns-in_ok-write_report-in-Told-clause-goes g c =
    let old = placed c.args.store.now c.args.session.now.boundary in
    let new = placed c.perform.new.store c.perform.new.session.boundary in
    let command = command_of c.args.command.now in
    let outcome = outcome_view c.in-Told.outcome in
    let answers = subst (AnswersOf command old.1 new.1) c.in-Told.is c.in_ok-performed.ensures.header in
    goes_one g.S.Store old new (Perform c.args.input.now.date c.args.input.now.files command) outcome
    (g.W.Sink.taken c.args.w.now)
    (g.W.Sink.taken c.write_report.new.w) _
    (performs_passes g.S.Store old new c.args.input.now.date c.args.input.now.files command c.in_ok-performed.performed
    outcome
    answers.0 answers.1
    (λ change ran. subst (AnswersRun change) c.in-Told.is ran) c.in_ok-performed.ensures.uses.goes.over)
    (sent_all _ _ _ _ _ c.in_ok-write_report-in-Told.ensures.sends c.in_ok-write_report-in-Told.ensures.fault)
    c.in_ok-write_report-in-Told.ensures.code

pub returns-in_err-write_report-in-Lists-clause-goes : goal.returns-in_err-write_report-in-Lists-clause-goes
returns-in_err-write_report-in-Lists-clause-goes g c =
    let old = placed c.args.store.now c.args.session.now.boundary in
    let new = placed c.perform.new.store c.perform.new.session.boundary in
    let command = command_of c.args.command.now in
    let act = Perform c.args.input.now.date c.args.input.now.files command in
    let a = g.W.Sink.taken c.args.w.now in
    let b = g.W.Sink.taken c.write_report-in-Lists.new.w in
    let outcome = outcome_view c.list.result in
    let lists = subst (AnswersOf command old.1 new.1) c.in-Lists.is c.in_ok-performed.ensures.header in
    goes_early g.S.Store old new (act ∷ []) a b c.from_residual-in_err-write_report-in-Lists.result Write
    c.from_residual-in_err-write_report-in-Lists.ensures.1
    (early_first g.S.Store old new.0 act [] a b Write
    (fails_told g.S.Store old new act outcome a b
    (performs_passes g.S.Store old new c.args.input.now.date c.args.input.now.files command c.in_ok-performed.performed
    outcome
    (subst (λ d. IsOutcomeOf d old.1 outcome) (sym lists.0)
    (subst (λ boundary. IsOutcomeOf (ListZone c.in-Lists.text) boundary outcome) lists.1 c.list.ensures.header))
    (subst (λ d. new.1 ≡ boundary_after d outcome old.1) (sym lists.0) lists.1)
    (λ change ran. absurd (subst (AnswersRun change) c.in-Lists.is ran)) c.in_ok-performed.ensures.uses.goes.over)
    (sent_part _ _ _ _ _ c.in_err-write_report-in-Lists.ensures.sends c.in_err-write_report-in-Lists.ensures.fault)))

pub returns-in_ok-write_report-in-Lists-clause-goes : goal.returns-in_ok-write_report-in-Lists-clause-goes
returns-in_ok-write_report-in-Lists-clause-goes g c =
    let old = placed c.args.store.now c.args.session.now.boundary in
    let new = placed c.perform.new.store c.perform.new.session.boundary in
    let command = command_of c.args.command.now in
    let outcome = outcome_view c.list.result in
    let lists = subst (AnswersOf command old.1 new.1) c.in-Lists.is c.in_ok-performed.ensures.header in
    goes_one g.S.Store old new (Perform c.args.input.now.date c.args.input.now.files command) outcome
    (g.W.Sink.taken c.args.w.now)
    (g.W.Sink.taken c.write_report-in-Lists.new.w) _
    (performs_passes g.S.Store old new c.args.input.now.date c.args.input.now.files command c.in_ok-performed.performed
    outcome
    (subst (λ d. IsOutcomeOf d old.1 outcome) (sym lists.0)
    (subst (λ boundary. IsOutcomeOf (ListZone c.in-Lists.text) boundary outcome) lists.1 c.list.ensures.header))
    (subst (λ d. new.1 ≡ boundary_after d outcome old.1) (sym lists.0) lists.1)
    (λ change ran. absurd (subst (AnswersRun change) c.in-Lists.is ran)) c.in_ok-performed.ensures.uses.goes.over)
    (sent_all _ _ _ _ _ c.in_ok-write_report-in-Lists.ensures.sends c.in_ok-write_report-in-Lists.ensures.fault)
    c.in_ok-write_report-in-Lists.ensures.code

-- ---- the store behind it

pub returns-in_err-performed-clause-follows : goal.returns-in_err-performed-clause-follows
returns-in_err-performed-clause-follows g c = c.perform.ensures.uses.goes.follows

pub returns-in_err-write_report-in-Told-clause-follows : goal.returns-in_err-write_report-in-Told-clause-follows
returns-in_err-write_report-in-Told-clause-follows g c = c.perform.ensures.uses.goes.follows

pub returns-in_ok-write_report-in-Told-clause-follows : goal.returns-in_ok-write_report-in-Told-clause-follows
returns-in_ok-write_report-in-Told-clause-follows g c = c.perform.ensures.uses.goes.follows

pub returns-in_err-write_report-in-Lists-clause-follows : goal.returns-in_err-write_report-in-Lists-clause-follows
returns-in_err-write_report-in-Lists-clause-follows g c = c.perform.ensures.uses.goes.follows

pub returns-in_ok-write_report-in-Lists-clause-follows : goal.returns-in_ok-write_report-in-Lists-clause-follows
returns-in_ok-write_report-in-Lists-clause-follows g c = c.perform.ensures.uses.goes.follows
