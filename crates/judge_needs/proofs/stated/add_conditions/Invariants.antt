use Rattle.std.proofs.Common.{filter, map, take}
use Rattle.std.specs.List.{flat_map}
use Rattle.std.specs.Str.{bytes_eq}
use Rattle.judge_needs.specs.Conditions.{AddsMore, a_requisite}
use Rattle.judge_needs.proofs.stated.add_conditions.Given as goal

abbrev pub invariant-loop-condition : goal.invariant-loop-condition
invariant-loop-condition l =
    AddsMore l.fn.stated l.stated (λ f. map (a_requisite l.fn.by) (flat_map (λ i. i.req)
    (filter (λ i. bytes_eq f i.function) (take l.condition-index l.conditions))))
