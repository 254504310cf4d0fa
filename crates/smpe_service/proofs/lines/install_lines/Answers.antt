use Rattle.std.proofs.Common.{ap, map, subst, ◌∙◌}
use Rattle.std.specs.Prelude.{IfOk}
use Rattle.judge_system.specs.Views.{why_failed}
use Rattle.report.specs.Views.{line_view}
use Rattle.smpe_service.specs.Statuses.{all_statuses, AreById}
use Rattle.smpe_service.proofs.lines.install_lines.Goals as goal

pub returns : goal.returns
returns c =
    let failed = map why_failed c.args.decided.failed.items in
    subst (λ all. IfOk c.lines_by_id.result (λ lines. AreById c.args.global.now all (map line_view lines.items)))
    (c.in_ok-statuses.ensures
    ∙ ap (λ kept. all_statuses c.args.kind c.args.effective.now kept failed c.args.left_out.now)
    c.as_slice.ensures.items)
    c.lines_by_id.ensures
