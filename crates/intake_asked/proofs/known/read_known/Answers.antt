use Rattle.std.proofs.Common.{◌∙◌, ap, map, sym}
use Rattle.std.proofs.lemmas.Result.{IfOk-weaker}
use Rattle.intake_asked.proofs.Listed.{listed_more}
use Rattle.intake_asked.proofs.known.read_known.Goals as goal

pub returns : goal.returns
returns c =
    IfOk-weaker c.read_lines.result _ _
    (λ list more. listed_more _ c.in-Some.first.now.now (map (λ line. line.now) c.in-Some.rest.now)
    c.in_ok-sysmods.sysmods.items list (sym c.in_ok-lines.ensures
    ∙ ap (map (λ line. line.now)) (sym c.as_slice.ensures.value ∙ c.in-Some.ensures.cases.0))
    c.in_ok-sysmods.ensures more) c.read_lines.ensures
