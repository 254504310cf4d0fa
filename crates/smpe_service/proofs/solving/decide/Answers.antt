use Rattle.std.proofs.lemmas.Result.{IfOk-weaker}
use Rattle.smpe_service.specs.Solved.{IsSolved}
use Rattle.smpe_service.proofs.solving.decide.Goals as goal

pub returns : goal.returns
returns c =
    IfOk-weaker c.decided.result _ (λ d. IsSolved c.args.judged.now d.kept d.failed.items)
    (λ d by. record { flags = c.in_ok-set.set; are_kept = c.in_ok-set.ensures; decided = by }) c.decided.ensures
