use Rattle.std.proofs.Common.{◌∙◌, ◌++◌, IsPermutation, ap, arith, map, subst, sym, take_all}
use Rattle.terms.proofs.Lists.{flat_next}
use Rattle.terms.specs.Lookups.{change_key}
use Rattle.change.specs.Restoring.{all_changed, changed_keys}
use Rattle.change.proofs.restoring.changed_keys_in_order.Goals as goal

pub loop-id-preserved : goal.loop-id-preserved
loop-id-preserved c =
    let g = c.args.global.now in
    let old = c.loop-id.changed.items in
    let id = c.id-item.result in
    c.loop-change.invariant
    ∙ ap (λ hs. old ++ map change_key hs)
    (take_all c.loop-change.change-index c.changes_of-changes.result.now (omega arith) ∙ c.changes_of-changes.ensures)
    ∙ ap (λ keys. keys ++ changed_keys g id) c.loop-id.invariant
    ∙ sym (flat_next (changed_keys g) c.as_slice-id-items.result.now c.loop-id.id-index id (omega arith) c.id-item.is)

pub returns : goal.returns
returns c =
    let ids = c.as_slice-id-items.result.now in
    subst (λ keys. IsPermutation keys c.sort_unstable.new.self.items)
    (c.loop-id.invariant ∙ ap (all_changed c.args.global.now)
    (take_all c.loop-id.id-index ids (omega arith) ∙ c.as_slice-id-items.ensures.items))
    c.sort_unstable.ensures.permutation
