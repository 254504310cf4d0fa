use Rattle.std.proofs.Common.{◌≡◌, ◌∙◌, ap}
use Rattle.std.specs.Vec.Iter.{into_iter_items}
use Rattle.judge_system.proofs.Standing.{collected, all_served}
use Rattle.judge_system.proofs.serving.served_pairs.Goals as goal

pub returns : goal.returns
returns c =
    let ids = c.args.ids.now.keys in
    let over = c.args.superseded.now in
    let own = c.in_ok-pairs.pairs.items in
    let all = c.add_superseded.new.pairs.items in
    let run = c.in_ok-set.ensures.runs tt in
    let are = c.into_iter.ensures.runs run.0 run.0.seen in
    let same : run.0.items ≡ all = are.4 run.2 ∙ ap into_iter_items run.1 ∙ c.into_iter.ensures.rest in
    collected ids over all c.in_ok-set.set (rw same at run.3)
    (all_served ids over own all (rw c.as_slice.ensures.keys at c.in_ok-pairs.ensures) c.in_ok-add_superseded.ensures)
