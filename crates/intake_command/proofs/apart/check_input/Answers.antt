use Rattle.std.proofs.Common.{refl, arith}
use Rattle.intake_command.specs.Serving.{is_apart}
use Rattle.intake_command.proofs.Comparing.{compared_next, compared_whole, apart_quiet}
use Rattle.intake_command.proofs.Doing.{idle, on_err, quiet}
use Rattle.intake_command.proofs.apart.check_input.Goals as goal

pub loop-output-init : goal.loop-output-init
loop-output-init g c = idle g.H.IntakeHost _ refl

pub loop-output-preserved : goal.loop-output-preserved
loop-output-preserved g c =
    compared_next g.H.IntakeHost (is_apart c.args.folder.now c.args.input.now) (λ n. n.now) c.args.outputs.now
    c.loop-output.output-index _ (omega arith) c.loop-output.invariant c.in_ok-check_output.ensures.ok

pub returns-in_err-check_output-clause-err : goal.returns-in_err-check_output-clause-err
returns-in_err-check_output-clause-err g c =
    on_err _ (quiet g.H.IntakeHost (apart_quiet g.H.IntakeHost c.args.folder.now c.args.input.now _
    c.loop-output.invariant) c.in_err-check_output.ensures.err)

pub returns-clause-ok : goal.returns-clause-ok
returns-clause-ok g c =
    compared_whole g.H.IntakeHost (is_apart c.args.folder.now c.args.input.now) (λ n. n.now) c.args.outputs.now
    c.loop-output.output-index (omega arith) c.loop-output.invariant
