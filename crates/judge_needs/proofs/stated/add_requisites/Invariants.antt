use Rattle.std.proofs.Common.{map, take, cond, []}
use Rattle.std.specs.Str.{bytes_eq}
use Rattle.judge_needs.specs.Conditions.{AddsMore, a_requisite}
use Rattle.judge_needs.proofs.stated.add_requisites.Given as goal

abbrev pub invariant-loop-id : goal.invariant-loop-id
invariant-loop-id l =
    AddsMore l.fn.stated l.stated
    (λ f. cond (bytes_eq f l.function) (map (a_requisite l.by) (take l.id-index l.ids)) [])
