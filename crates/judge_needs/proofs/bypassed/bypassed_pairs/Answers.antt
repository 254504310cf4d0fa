use Rattle.std.proofs.Common.{◌≤◌, ◌∙◌, length, take_all, arith, subst, Contains}
use Rattle.std.specs.Prelude.{◌↔◌}
use Rattle.terms.specs.Types.{Id}
use Rattle.terms.specs.Needs.{bypassed_ids}
use Rattle.judge_needs.specs.Pairs.{AreBypassed}
use Rattle.zones.specs.Scopes.{setting_of}
use Rattle.judge_needs.proofs.Paired.{pairs_alike, pairs_next}
use Rattle.judge_needs.proofs.bypassed.bypassed_pairs.Goals as goal

pub loop-id-preserved : goal.loop-id-preserved
loop-id-preserved c =
    let x = c.id-item.result in
    let ids = c.as_slice.result.now in
    let old = c.loop-id.pairs.items in
    let new = c.add_pairs.new.pairs.items in
    let own = λ (x : Id). Contains (bypassed_ids (setting_of c.args.conditions.now.scope) x) in
    let same : (z : Id) → Contains ids z ↔ own x z = rw c.as_slice.ensures.value c.in_ok-ids.ensures in
    pairs_next own c.as_slice-id-items.result.now c.loop-id.id-index x old new (omega arith) c.id-item.is
    (pairs_alike x (Contains ids) (own x) old new same c.in_ok-add_pairs.ensures) c.loop-id.invariant

pub returns : goal.returns
returns c =
    let whole : length c.as_slice-id-items.result.now ≤ c.loop-id.id-index = omega arith in
    subst (λ l. AreBypassed (setting_of c.args.conditions.now.scope) l c.loop-id.pairs.items)
    (take_all c.loop-id.id-index c.as_slice-id-items.result.now whole ∙ c.as_slice-id-items.ensures.items)
    c.loop-id.invariant
