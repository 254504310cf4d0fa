use Rattle.std.proofs.Common.{◌++◌, ◌∙◌, sym, ap}
use Rattle.std.proofs.lemmas.List.Folds.{list_any_none}
use Rattle.solve.specs.System.{holds}
use Rattle.solve.specs.NeedView.{numbered}
use Rattle.solve.specs.Rows.{row_at}
use Rattle.judge_system.proofs.Opened.{row_pushed, open_where}
use Rattle.judge_system.proofs.needs.push_unless_served.Goals as goal

pub returns-in_ok-push : goal.returns-in_ok-push
returns-in_ok-push c x =
    let d = numbered c.args.need.now in
    row_pushed c.args.rows.now d.of c.push.new.self c.index-rows-need.result c.args.kind_and_id c.requires
    c.in_ok-push.ensures.items x
    ∙ ap (λ l. row_at c.args.rows.now x ++ l)
    (sym (open_where c.args.kept.now d c.args.kind_and_id x
    (list_any_none (holds c.args.kept.now) d.any (c.serves.ensures.none c.if-not-serves.true))))
