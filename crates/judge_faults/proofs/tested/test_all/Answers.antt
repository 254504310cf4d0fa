use Rattle.std.proofs.Common.{◌∙◌, ap, length}
use Rattle.std.specs.Prelude.{option_copied}
use Rattle.terms.specs.Global.{IsGlobal}
use Rattle.zones.specs.Scopes.{global_of, setting_with}
use Rattle.judge_system.specs.TestSets.{tests_of}
use Rattle.judge_faults.proofs.Deleting.{own_still, eight}
use Rattle.judge_faults.proofs.Places.{are_failed}
use Rattle.judge_faults.proofs.tested.test_all.Goals as goal

pub clashing_places-requires : goal.clashing_places-requires
clashing_places-requires c = record {
  rising = c.as_slice-ids.ensures.rising;
  lengths = ap length c.as_slice-2.ensures.value ∙ c.in_ok-faults.ensures.2.lengths;
}

pub returns-clause-tests : goal.returns-clause-tests
returns-clause-tests c =
    let s = setting_with c.args.scope.now (option_copied c.args.related) in
    let form : IsGlobal (global_of c.args.scope.now) = rw c.global.ensures at c.attest.ensures in
    let rising = rw c.as_slice-ids.ensures.items at c.as_slice-ids.ensures.rising in
    let alone = c.in_ok-own_faults.own_faults.items in
    let faults = c.in_ok-faults.faults.items in
    let told = rw (c.as_slice-ids.ensures.items, c.as_slice.ensures.value) at c.in_ok-faults.ensures in
    let same = c.in_ok-own_faults.ensures.same ∙ c.new-overs.ensures in
    let clashing = rw (c.as_slice-ids.ensures.items, c.as_slice-2.ensures.value, same) at
    c.in_ok-clashing.ensures.clashing in
    are_failed s form rising faults
    (own_still s form alone faults c.in_ok-own_faults.ensures.faults told.0 told.1 told.2)
    (eight s form alone faults c.in_ok-own_faults.ensures.faults told.0 told.1 told.2)
    c.in_ok-clashing.clashing.keys clashing tests_of c.in_ok-tests.tests.items
    (rw c.as_slice-3.ensures.value at c.in_ok-tests.ensures)
