use Rattle.std.proofs.Common.{◌∙◌, subst, refl, false}
use Rattle.std.proofs.lemmas.Result.{on_ok_weaker}
use Rattle.intake_command.specs.Acts.{Compares}
use Rattle.intake_command.proofs.Doing.{did, on_err, quiet_idle}
use Rattle.intake_command.proofs.apart.check_output.Goals as goal

pub returns-in_err-path-clause-err : goal.returns-in_err-path-clause-err
returns-in_err-path-clause-err g c = on_err _ (quiet_idle g.H.IntakeHost _)

pub returns-clause-ok : goal.returns-clause-ok
returns-clause-ok g c =
    on_ok_weaker c.check_path.result (λ done. did g.H.IntakeHost _ _ _
    (subst (λ p. g.H.IntakeHost.does c.args.host.now (Compares p c.args.input.now false) c.check_path.new.host)
    (c.as_str.ensures.value ∙ c.in_ok-path.ensures) done) refl) c.check_path.ensures.ok
