use Rattle.std.proofs.Common.{map, refl, arith}
use Rattle.intake_command.specs.Serving.{are_apart}
use Rattle.intake_command.proofs.Comparing.{compared_next, compared_whole, are_apart_quiet}
use Rattle.intake_command.proofs.Doing.{idle, on_err, quiet}
use Rattle.intake_command.proofs.apart.check_inputs.Goals as goal

pub loop-input-init : goal.loop-input-init
loop-input-init g c = idle g.H.IntakeHost _ refl

pub loop-input-preserved : goal.loop-input-preserved
loop-input-preserved g c =
    compared_next g.H.IntakeHost (are_apart c.args.folder.now (map (λ n. n.now) c.args.outputs.now)) (λ n. n.now)
    c.args.names.now c.loop-input.input-index _ (omega arith) c.loop-input.invariant c.in_ok-check_input.ensures.ok

pub returns-in_err-check_input-clause-err : goal.returns-in_err-check_input-clause-err
returns-in_err-check_input-clause-err g c =
    on_err _ (quiet g.H.IntakeHost (are_apart_quiet g.H.IntakeHost c.args.folder.now
    (map (λ n. n.now) c.args.outputs.now) _ c.loop-input.invariant) c.in_err-check_input.ensures.err)

pub returns-clause-ok : goal.returns-clause-ok
returns-clause-ok g c =
    compared_whole g.H.IntakeHost (are_apart c.args.folder.now (map (λ n. n.now) c.args.outputs.now)) (λ n. n.now)
    c.args.names.now c.loop-input.input-index (omega arith) c.loop-input.invariant
