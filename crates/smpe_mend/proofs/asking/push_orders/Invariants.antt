use Rattle.std.proofs.Common.{◌≡◌, ◌++◌, drop, map}
use Rattle.std.specs.List.{flat_map}
use Rattle.judge_system.specs.Views.{need_view}
use Rattle.smpe_mend.specs.Asked.{order_for}
use Rattle.smpe_mend.proofs.asking.push_orders.Given as goal

-- with what the rest adds, all of it
abbrev pub invariant-loop-need : goal.invariant-loop-need
invariant-loop-need l =
    l.found.items ++ flat_map (order_for l.global l.fn.srel) (map need_view (drop l.need-index l.needs))
    ≡ l.fn.found.items ++ flat_map (order_for l.global l.fn.srel) (map need_view l.needs)
