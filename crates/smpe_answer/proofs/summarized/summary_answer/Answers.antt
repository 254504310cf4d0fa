use Rattle.std.proofs.lemmas.Result.{IfOk-weaker}
use Rattle.smpe_answer.specs.Answered.{IsJoined, IsSummaryAnswer}
use Rattle.smpe_answer.proofs.summarized.summary_answer.Goals as goal

pub returns : goal.returns
returns c =
    let part = c.in_ok-part.part in
    IfOk-weaker c.add_ids.result (IsJoined c.args.zones.now c.args.ids.now part)
    (IsSummaryAnswer c.args.zones.now c.args.facts.now c.args.ids.now)
    (λ answer joined. (part, c.in_ok-part.ensures, joined)) c.add_ids.ensures
