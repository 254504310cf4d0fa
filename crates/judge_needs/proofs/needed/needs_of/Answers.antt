use Rattle.std.proofs.Common.{◌≡◌, ◌≤◌, ◌∙◌, List, arith, length, subst, take_all}
use Rattle.terms.specs.Types.{Id}
use Rattle.terms.specs.Deleted.{deletions, zone_less}
use Rattle.zones.specs.Scopes.{global_of, choice_of, setting_of}
use Rattle.judge_needs.specs.Needed.{AreNeedsOf}
use Rattle.judge_needs.proofs.AllNeeds.{needs_next}
use Rattle.judge_needs.proofs.needed.needs_of.Goals as goal

pub loop-id-preserved : goal.loop-id-preserved
loop-id-preserved c =
    let scope = c.args.conditions.now.scope in
    needs_next (setting_of scope) c.args.survivors.now
    (zone_less (global_of scope) (choice_of scope) c.as_slice-dels.result.now scope.zone.now)
    c.as_slice-id-items.result.now c.loop-id.id-index c.id-item.result c.loop-id.needs.items
    c.add_needs_of_candidate.new.needs.items c.as_slice-id-items.ensures.rising (omega arith) c.id-item.is
    c.in_ok-add_needs_of_candidate.ensures c.loop-id.invariant

pub returns : goal.returns
returns c =
    let scope = c.args.conditions.now.scope in
    let needs = AreNeedsOf (setting_of scope) c.args.survivors.now in
    let left = λ (ds : List Id). zone_less (global_of scope) (choice_of scope) ds scope.zone.now in
    let dels : c.as_slice-dels.result.now ≡ deletions (choice_of scope) c.args.survivors.now =
    c.as_slice-dels.ensures.value ∙ rw c.as_slice.ensures.items at c.in_ok-dels.ensures in
    let whole : length c.as_slice-id-items.result.now ≤ c.loop-id.id-index = omega arith in
    subst (λ ds. needs (left ds) scope.ids.now c.loop-id.needs.items) dels
    (subst (λ ids. needs (left c.as_slice-dels.result.now) ids c.loop-id.needs.items)
    (take_all c.loop-id.id-index c.as_slice-id-items.result.now whole ∙ c.as_slice-id-items.ensures.items)
    c.loop-id.invariant)
