use Rattle.std.proofs.Common.{◌≡◌, ◌∙◌, [], ap, cond, filter, map, rules, tests}
use Rattle.std.specs.Prelude.{IfOk}
use Rattle.std.proofs.lemmas.Iterator.{YieldsList-from_map, YieldsList-from_slice, items_from_collect}
use Rattle.std.proofs.lemmas.Iterator.Consumers.{YieldsList-at, YieldsList-from_filter}
use Rattle.std.proofs.lemmas.Result.{IfOk-weaker}
use Rattle.terms.specs.Types.{Global}
use Rattle.terms.specs.Lookups.{is_applied, is_function}
use Rattle.zones.specs.Gone.{left_of}
use Rattle.judge_needs.specs.declared.stated.StatedRequisite.{StatedRequisite}
use Rattle.judge_needs.proofs.conditions.Conditions.stated_requisites_for.Goals as goal

pub returns : goal.returns
returns c =
    let left = left_of c.args.left.now in
    let found = map (λ (r : StatedRequisite). r.id) (filter (λ r. is_applied left r.by) c.listed.result.now) in
    let made : IfOk c.collect.result (λ ids. ids.items ≡ found) =
    items_from_collect _ c.collect.ensures.ran (YieldsList-from_map _ (λ (r : StatedRequisite). r.id)
    (YieldsList-at c.map.ensures.source (YieldsList-from_filter _ (λ (r : StatedRequisite). is_applied left r.by)
    (YieldsList-from_slice _ cc) c.filter.ensures.closure (λ x b q k. search (rules, tests))))
    c.map.ensures.closure (λ x r q k. search rules)) in
    IfOk-weaker c.collect.result _ _
    (λ ids is. is
    ∙ ap (λ b. cond b found []) (c.if-not-is_function.ensures
    ∙ ap (λ (g : Global). is_function g c.args.id) c.global.ensures)
    ∙ ap (λ l. cond (is_function c.args.self.now.scope.vers.now.global.now c.args.id)
    (map (λ (r : StatedRequisite). r.id) (filter (λ r. is_applied left r.by) l)) []) c.listed.ensures) made
