use Rattle.std.proofs.Common.{◌∙◌, ap, map, refl, arith}
use Rattle.intake_list.specs.Says.{values_in, values_of_key}
use Rattle.intake_list.proofs.Rest.{rest_more, rest_all}
use Rattle.intake_list.proofs.says.values_under.Goals as goal

pub loop-key-preserved : goal.loop-key-preserved
loop-key-preserved c =
    let l = c.loop-key in
    let key = c.key-item.result in
    let name = c.args.name.now in
    rest_more (values_in name) (values_in name) c.keys-all.result.now l.key-index key
    (map (λ word. word.now) l.values.items) (values_of_key name key)
    (map (λ word. word.now) c.add_values_of_key.new.values.items) _ (omega arith) c.key-item.is refl
    c.in_ok-add_values_of_key.ensures l.invariant

pub returns : goal.returns
returns c =
    let l = c.loop-key in
    let name = c.args.name.now in
    rest_all (values_in name) c.keys-all.result.now l.key-index (map (λ word. word.now) l.values.items) _ (omega arith)
    refl l.invariant ∙ ap (values_in name) c.keys-all.ensures
