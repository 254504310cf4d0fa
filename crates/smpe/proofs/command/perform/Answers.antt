use Rattle.std.proofs.Common.{refl}
use Rattle.cntl.specs.Views.{command_of}
use Rattle.terms.specs.Types.{Set, Receive, Reject, Apply, Accept, Restore}
use Rattle.fields.specs.Choices.{restore_list_of}
use Rattle.machine.specs.Machine.{Perform}
use Rattle.smpe_session.proofs.Stepping.{stopped}
use Rattle.smpe_session.proofs.Using.{nothing, answered, ran_short, told_uses, told_of, no_answer}
use Rattle.smpe.proofs.command.perform.Goals as goal

pub returns-in-Set-clause-uses : goal.returns-in-Set-clause-uses
returns-in-Set-clause-uses g c = rw c.in-Set.is
    (told_uses c.args.date c.args.files.now c.wrap_outcome.ensures c.set.ensures.uses
    (λ own none. absurd none) (λ s ended is. ended is c.args.date c.args.files.now))

pub returns-in-Receive-clause-uses : goal.returns-in-Receive-clause-uses
returns-in-Receive-clause-uses g c = rw c.in-Receive.is
    (told_uses c.args.date c.args.files.now c.wrap_outcome-in-Receive.ensures c.receive.ensures.uses
    (λ change own. own) (λ s ended is. ended is c.args.date))

pub returns-in-Reject-clause-uses : goal.returns-in-Reject-clause-uses
returns-in-Reject-clause-uses g c = rw c.in-Reject.is
    (told_uses c.args.date c.args.files.now c.wrap_outcome-in-Reject.ensures c.reject.ensures.uses
    (λ change own. own) (λ s ended is. ended is c.args.date c.args.files.now))

pub returns-in-Apply-clause-uses : goal.returns-in-Apply-clause-uses
returns-in-Apply-clause-uses g c = rw c.in-Apply.is
    (told_uses c.args.date c.args.files.now c.wrap_outcome-in-Apply.ensures c.install.ensures.uses
    (λ change own. ((own.0, own.1), own.2)) (λ s ended is. ended is c.args.files.now))

pub returns-in-Accept-clause-uses : goal.returns-in-Accept-clause-uses
returns-in-Accept-clause-uses g c = rw c.in-Accept.is
    (told_uses c.args.date c.args.files.now c.wrap_outcome-in-Accept.ensures c.install-in-Accept.ensures.uses
    (λ change own. ((own.0, own.1), own.2)) (λ s ended is. ended is c.args.files.now))

pub returns-in-Restore-clause-uses : goal.returns-in-Restore-clause-uses
returns-in-Restore-clause-uses g c = rw c.in-Restore.is
    (told_uses c.args.date c.args.files.now c.wrap_outcome-in-Restore.ensures c.restore.ensures.uses
    (λ change own. ((own.0, own.1), own.2)) (λ s ended is. ended is c.args.date c.args.files.now))

pub returns-in-List-clause-uses : goal.returns-in-List-clause-uses
returns-in-List-clause-uses g c = rw c.in-List.is (answered nothing (λ own none. absurd none)
    (λ s inventory keeps is. (refl, is, keeps)))

pub returns-in_err-report-in-Report-clause-uses : goal.returns-in_err-report-in-Report-clause-uses
returns-in_err-report-in-Report-clause-uses g c = ran_short c.from_residual.ensures.1 nothing
    (λ s inventory keeps is. stopped g.S.Store c.args.store.now s
    (Perform c.args.date c.args.files.now (command_of c.args.command.now)) keeps)

pub returns-in_ok-report-in-Report-clause-uses : goal.returns-in_ok-report-in-Report-clause-uses
returns-in_ok-report-in-Report-clause-uses g c = rw c.in-Report.is (answered nothing (λ own none. absurd none)
    (λ s inventory keeps is.
    (s, c.in_ok-report-in-Report.ensures.performs s is inventory c.args.date c.args.files.now, is, keeps)))

-- ---- the header

pub returns-in-Set-clause-header : goal.returns-in-Set-clause-header
returns-in-Set-clause-header g c = rw c.in-Set.is
    (told_of (Set c.in-Set.name) _ _ c.set.result _ c.wrap_outcome.ensures c.set.ensures.header)

pub returns-in-Receive-clause-header : goal.returns-in-Receive-clause-header
returns-in-Receive-clause-header g c = rw c.in-Receive.is
    (told_of (Receive c.in-Receive.operands) _ _ c.receive.result _ c.wrap_outcome-in-Receive.ensures
    c.receive.ensures.header)

pub returns-in-Reject-clause-header : goal.returns-in-Reject-clause-header
returns-in-Reject-clause-header g c = rw c.in-Reject.is
    (told_of (Reject c.in-Reject.ids) _ _ c.reject.result _ c.wrap_outcome-in-Reject.ensures c.reject.ensures.header)

pub returns-in-Apply-clause-header : goal.returns-in-Apply-clause-header
returns-in-Apply-clause-header g c = rw c.in-Apply.is
    (told_of (Apply c.in-Apply.operands) _ _ c.install.result _ c.wrap_outcome-in-Apply.ensures c.install.ensures.header)

pub returns-in-Accept-clause-header : goal.returns-in-Accept-clause-header
returns-in-Accept-clause-header g c = rw c.in-Accept.is
    (told_of (Accept c.in-Accept.operands) _ _ c.install-in-Accept.result _ c.wrap_outcome-in-Accept.ensures
    c.install-in-Accept.ensures.header)

pub returns-in-Restore-clause-header : goal.returns-in-Restore-clause-header
returns-in-Restore-clause-header g c = rw c.in-Restore.is
    (told_of (Restore (restore_list_of c.in-Restore.list) c.in-Restore.check) _ _ c.restore.result _
    c.wrap_outcome-in-Restore.ensures c.restore.ensures.header)

pub returns-in-List-clause-header : goal.returns-in-List-clause-header
returns-in-List-clause-header g c = rw c.in-List.is (refl, refl)

pub returns-in_err-report-in-Report-clause-header : goal.returns-in_err-report-in-Report-clause-header
returns-in_err-report-in-Report-clause-header g c =
    no_answer c.from_residual.result _ _ c.from_residual.ensures.1

pub returns-in_ok-report-in-Report-clause-header : goal.returns-in_ok-report-in-Report-clause-header
returns-in_ok-report-in-Report-clause-header g c =
    rw c.in-Report.is (c.in_ok-report-in-Report.ensures.header, refl)
