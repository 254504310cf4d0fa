use Rattle.std.proofs.Common.{◌∙◌, ap, subst}
use Rattle.std.specs.Prelude.{Err}
use Rattle.std.proofs.lemmas.Result.{IfOk-weaker}
use Rattle.terms.specs.Global.{Receives, ReceiveFault, RefusedBy}
use Rattle.smpe_mend.specs.Runs.{stand_in}
use Rattle.smpe_mend.proofs.Faults.{found_fault}
use Rattle.smpe_mend.proofs.stand_in.receive_stand_in.Goals as goal

pub returns-in-Err-clause-refused : goal.returns-in-Err-clause-refused
returns-in-Err-clause-refused c =
    IfOk-weaker c.refusal_as_false.result _ _
    (λ received is no. (
      subst (λ s. (f : ReceiveFault) × Receives c.args.global.now s (Err f))
          (c.in_ok-sysmod.ensures ∙ ap (λ k. stand_in c.args.srel k c.args.id) c.in_ok-kind.ensures)
          (found_fault (RefusedBy c.args.global.now c.in_ok-sysmod.sysmod) _ is.1 c.in-Err.ensures.refused),
      c.in-Err.ensures.err,
    ))
    c.refusal_as_false.ensures
