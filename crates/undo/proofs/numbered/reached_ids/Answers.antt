use Rattle.std.proofs.Common.{Contains}
use Rattle.std.proofs.lemmas.List.Elements.{All-contains}
use Rattle.undo.specs.declared.nodes.Node.TheVariants.{Sysmod}
use Rattle.undo.specs.Steps.{as_steps}
use Rattle.undo.proofs.RulesOfSteps.{all_reached, starts_in, covers_in}
use Rattle.undo.proofs.numbered.reached_ids.Goals as goal

pub rules_of_steps-requires : goal.rules_of_steps-requires
rules_of_steps-requires c =
    covers_in c.from_vec-table.result c.in_ok-all_nodes.field-0.items c.args.ids.now c.args.steps.now
    c.in_ok-all_nodes.ensures c.from_vec-table.ensures.members

pub returns : goal.returns
returns c =
    let table = c.from_vec-table.result in
    let ids = c.args.ids.now in
    let starts = starts_in table c.in_ok-all_nodes.field-0.items ids c.args.steps.now c.in_ok-all_nodes.ensures
    c.from_vec-table.ensures.members in
    let rises = rw c.as_slice.ensures.items at c.as_slice.ensures.rising in
    let flagged = rw (c.as_slice.ensures.items, c.as_slice-2.ensures.value) at c.in_ok-reached.ensures in
    all_reached table rises ids (as_steps c.args.steps.now) c.in_ok-rules.rules c.in_ok-rules.ensures
    (λ x h. All-contains (λ y. Contains table (Sysmod y)) ids x starts h)
    c.in_ok-set.set.items c.in_ok-set.ensures c.in_ok-reached.reached.items c.from_vec.result flagged
    c.from_vec.ensures.members
