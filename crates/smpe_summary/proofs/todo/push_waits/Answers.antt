use Rattle.std.proofs.Common.{◌++◌, ◌∙◌, ap, arith, sym, take_all}
use Rattle.std.specs.List.{flat_map}
use Rattle.std.proofs.lemmas.List.Folds.{flat_map-map}
use Rattle.smpe_summary.specs.Todo.{wait_of}
use Rattle.judge_system.specs.Views.{need_view}
use Rattle.smpe_summary.proofs.Growing.{grown_more}
use Rattle.smpe_summary.proofs.todo.push_waits.Goals as goal

pub loop-need-preserved : goal.loop-need-preserved
loop-need-preserved c =
    grown_more (λ x. wait_of c.args.id (need_view x)) c.args.needs.now c.loop-need.need-index c.need-item.result
    c.args.todo.now.items c.loop-need.todo.items c.push_wait.new.todo.items (omega arith) c.need-item.is
    c.loop-need.invariant
    c.in_ok-push_wait.ensures

pub returns : goal.returns
returns c =
    c.loop-need.invariant
    ∙ ap (λ l. c.args.todo.now.items ++ flat_map (λ x. wait_of c.args.id (need_view x)) l)
    (take_all c.loop-need.need-index c.args.needs.now (omega arith))
    ∙ ap (λ l. c.args.todo.now.items ++ l) (sym (flat_map-map (wait_of c.args.id) need_view c.args.needs.now))
