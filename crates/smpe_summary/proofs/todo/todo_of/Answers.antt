use Rattle.std.proofs.Common.{◌++◌, ◌∙◌, ap, map}
use Rattle.std.specs.List.{flat_map}
use Rattle.std.specs.Ordering.{nat_cmp}
use Rattle.std.specs.Cmp.Lexicographic.{slice_cmp}
use Rattle.sorted.specs.MultiMap.{listed}
use Rattle.report.specs.Views.{line_view}
use Rattle.smpe_summary.specs.Todo.{acts_in}
use Rattle.smpe_summary.proofs.todo.todo_of.Goals as goal

pub returns : goal.returns
returns c =
    let acts = flat_map (acts_in c.args.global.now (listed (slice_cmp nat_cmp) c.args.blocks.now))
    (map line_view c.args.lines.now) in
    record {
      orders = c.from_vec-orders.result;
      orders_are = record {
        rising = c.from_vec-orders.ensures.rising;
        members = rw c.in_ok-all_wanted.ensures at c.from_vec-orders.ensures.members;
      };
      todo = c.in_ok-push_all_holds.ensures
          ∙ ap (λ l. l ++ acts) c.in_ok-todo.ensures;
    }
