use Rattle.std.proofs.Common.{IfOk, false, subst}
use Rattle.terms.specs.Types.{Bypass}
use Rattle.smpe_why.specs.Telling.{IsTold}
use Rattle.smpe_answer.proofs.asked_ids.answer_ids.Goals as goal

pub returns : goal.returns
returns c =
    let zones = c.args.zones.now in
    subst (λ (bypass : Bypass). IfOk c.answer_question.result (IsTold zones.global zones.zone zones.related
    (record { ids = c.args.ids.now; together = false; groupextend = false; bypass = bypass })))
    c.none-bypass.ensures c.answer_question.ensures
