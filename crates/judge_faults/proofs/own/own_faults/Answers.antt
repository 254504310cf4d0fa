use Rattle.std.proofs.Common.{◌∙◌, refl}
use Rattle.std.specs.Prelude.{option_copied}
use Rattle.zones.specs.Scopes.{choice_of, global_of, setting_with}
use Rattle.judge_faults.proofs.Faulted.{faults_from}
use Rattle.judge_faults.proofs.own.own_faults.Goals as goal

pub returns-clause-faults : goal.returns-clause-faults
returns-clause-faults c =
    let scope = c.args.scope.now in
    faults_from (setting_with scope (option_copied c.args.related)) c.args.id _ (global_of scope) (choice_of scope)
    c.as_slice.result.now c.owner.result c.fmid.result c.changes_of-changes.result.now refl refl
    (c.as_slice.ensures.value ∙ c.in_ok-dels.ensures) c.owner.ensures c.fmid.ensures
    (rw c.global-global.ensures at c.changes_of-changes.ensures)
    (record {
      held_by_system = rw c.global-global.ensures at c.has_unbypassed_hold.ensures;
      held_by_user = rw c.global-global.ensures at c.has_unbypassed_hold-2.ensures;
      forbidden_by_npre = c.is_forbidden.ensures;
      owned_by_another = c.any_owned_by_another.ensures;
      regression = rw c.requires.overs at c.in_ok-regression.ensures.lower;
      nothing_to_update = rw c.global-global.ensures at c.any_has_nothing_to_update.ensures;
      not_in_target = c.fails_applycheck.ensures;
      several_fit = c.several_vers_fit.ensures;
    })
