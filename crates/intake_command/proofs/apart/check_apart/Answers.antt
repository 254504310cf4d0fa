use Rattle.std.proofs.Common.{◌∙◌, ap, map, List}
use Rattle.std.specs.List.{flat_map}
use Rattle.terms.specs.Types.{Text}
use Rattle.intake_command.specs.Files.{outputs_of}
use Rattle.intake_command.specs.Serving.{are_apart, folder_of}
use Rattle.intake_command.proofs.Doing.{on_err, quiet_idle, weaker}
use Rattle.intake_command.proofs.apart.check_apart.Goals as goal

pub returns-in_err-inputs-clause-err : goal.returns-in_err-inputs-clause-err
returns-in_err-inputs-clause-err g c = on_err _ (quiet_idle g.H.IntakeHost _)

pub returns-clause-ok : goal.returns-clause-ok
returns-clause-ok g c =
    let folder = folder_of c.args.asked.now in
    let names = map (λ n. n.now) c.deref.result.now in
    let same = ap (map (λ n. n.now)) c.deref.ensures.value ∙ c.in_ok-inputs.ensures in
    weaker g.H.IntakeHost c.in_ok-check_inputs.ensures.ok (λ acts e. e
    ∙ ap (λ (f : Text). flat_map (are_apart f (map (λ n. n.now) c.outputs_of.result.now)) names) c.as_str.ensures.value
    ∙ ap (λ (o : List Text). flat_map (are_apart folder o) names) c.outputs_of.ensures
    ∙ ap (flat_map (are_apart folder (outputs_of c.args.asked.now))) same)
