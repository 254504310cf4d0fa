use Rattle.std.proofs.Common.{◌≡◌, ◌∙◌, sym, ap, map, subst, rules}
use Rattle.std.specs.Prelude.{IfOk}
use Rattle.std.proofs.lemmas.Simd.{map-map}
use Rattle.std.proofs.lemmas.Result.{IfOk-weaker}
use Rattle.judge_system.specs.Open.{AreEachOnce, AreNeedsOf}
use Rattle.judge_system.specs.Views.{need_view}
use Rattle.judge_system.proofs.EachKind.{are_needs, open_need}
use Rattle.judge_system.proofs.needs.sorted_open_needs.Goals as goal

pub returns : goal.returns
returns c =
    let row = c.args.unserved.now in
    let once = c.sorted_without_doubles.result.items in
    let made : IfOk c.collect.result (λ found. found.items ≡ map open_need once) = search rules in
    let needs = are_needs row once (subst (λ l. AreEachOnce l once) c.in_ok-from_slice.ensures.items
    c.sorted_without_doubles.ensures) in
    IfOk-weaker c.collect.result (λ found. found.items ≡ map open_need once)
    (λ found. AreNeedsOf row (map need_view found.items))
    (λ found is. subst (AreNeedsOf row) (sym (ap (map need_view) is ∙ map-map need_view open_need once)) needs) made
