use Rattle.std.proofs.Common.{map, refl, arith}
use Rattle.intake_command.specs.Serving.{looks_for}
use Rattle.intake_command.proofs.Comparing.{compared_next, compared_whole, looks_quiet}
use Rattle.intake_command.proofs.Doing.{idle, on_err, quiet}
use Rattle.intake_command.proofs.own.check_files.Goals as goal

pub loop-name-init : goal.loop-name-init
loop-name-init g c = idle g.H.IntakeHost _ refl

pub loop-name-preserved : goal.loop-name-preserved
loop-name-preserved g c =
    compared_next g.H.IntakeHost (looks_for c.args.folder.now (map (λ n. n.now) c.args.written.now)) (λ n. n.now)
    c.args.names.now c.loop-name.name-index _ (omega arith) c.loop-name.invariant c.in_ok-check_file.ensures.ok

pub returns-in_err-check_file-clause-err : goal.returns-in_err-check_file-clause-err
returns-in_err-check_file-clause-err g c =
    on_err _ (quiet g.H.IntakeHost (looks_quiet g.H.IntakeHost c.args.folder.now
    (map (λ n. n.now) c.args.written.now) _ c.loop-name.invariant) c.in_err-check_file.ensures.err)

pub returns-clause-ok : goal.returns-clause-ok
returns-clause-ok g c =
    compared_whole g.H.IntakeHost (looks_for c.args.folder.now (map (λ n. n.now) c.args.written.now)) (λ n. n.now)
    c.args.names.now c.loop-name.name-index (omega arith) c.loop-name.invariant
