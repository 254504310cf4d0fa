use Rattle.std.proofs.Common.{◌∙◌, ap}
use Rattle.std.specs.Prelude.{Some, None, find}
use Rattle.judge_system.specs.Views.{need_view}
use Rattle.smpe_summary.specs.Groups.{lacks_function, by_function}
use Rattle.smpe_summary.proofs.FirstNeeds.{found_need}
use Rattle.smpe_summary.proofs.members.group_by_function.Goals as goal

pub returns-in-Some : goal.returns-in-Some
returns-in-Some c =
    let g = c.args.global.now in
    ap by_function (found_need (lacks_function g) c.args.failure.now.needs.items (Some c.in-Some.need.now)
    (c.in-Some.ensures ∙ ap (find (λ n. lacks_function g (need_view n))) c.as_slice.ensures.value))

pub returns-in-None : goal.returns-in-None
returns-in-None c =
    let g = c.args.global.now in
    ap by_function (found_need (lacks_function g) c.args.failure.now.needs.items None
    (c.in-None.ensures ∙ ap (find (λ n. lacks_function g (need_view n))) c.as_slice.ensures.value))
