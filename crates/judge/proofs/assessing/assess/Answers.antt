use Rattle.std.proofs.Common.{map, subst}
use Rattle.std.specs.Prelude.{option_copied}
use Rattle.terms.specs.Tests.{Setting, AreSurvivors}
use Rattle.sysmods.specs.declared.ver_choice.VerChoice.{VerChoice}
use Rattle.sysmods.specs.Choices.{choice}
use Rattle.sysmods.specs.Overs.{AreOver}
use Rattle.zones.specs.Scopes.{choice_of, setting_of, setting_with}
use Rattle.judge_system.specs.TestSets.{tests_of}
use Rattle.judge_needs.specs.Needed.{AreNeeds}
use Rattle.judge_needs.specs.Pairs.{AreBypassed, AreSuperseded}
use Rattle.judge.proofs.SaidOf.{install_judged}
use Rattle.judge.proofs.Survivors.{survivors_are}
use Rattle.judge.proofs.assessing.assess.Goals as goal

pub returns-clause-assessment : goal.returns-clause-assessment
returns-clause-assessment c =
    let scope = c.args.scope.now in
    let related = option_copied c.args.related in
    let s : Setting = setting_with scope related in
    let rows = map tests_of c.in_ok-tests.field-0.tests.items in
    let are : AreSurvivors s c.in_ok-survivors.survivors =
    survivors_are s rows c.in_ok-tests.ensures.tests c.in_ok-survivors.survivors c.in_ok-survivors.ensures.rising
    (rw c.as_slice.ensures.value at c.in_ok-survivors.ensures.members) in
    let needs = c.in_ok-needs.needs.items in
    let superseded = c.in_ok-superseded.superseded.items in
    record {
      survivors = c.in_ok-survivors.survivors;
      are_survivors = are;
      are_judged = install_judged scope related c.in_ok-survivors.survivors rows c.in_ok-tests.ensures.tests needs
          (subst (λ sc. AreNeeds (setting_of sc) c.in_ok-survivors.survivors needs) c.in_ok-conditions.ensures
          c.in_ok-needs.ensures) superseded
          (subst (λ ns. AreSuperseded (choice_of scope) ns scope.ids.now superseded) c.as_slice-2.ensures.value
          c.in_ok-superseded.ensures);
      bypassed = subst (λ sc. AreBypassed (setting_of sc) sc.ids.now c.in_ok-bypassed.bypassed.items)
          c.in_ok-conditions.ensures c.in_ok-bypassed.ensures;
    }

pub returns-clause-overs : goal.returns-clause-overs
returns-clause-overs c =
    subst (λ (v : VerChoice). AreOver (choice v) c.into_known.result) c.in_ok-tests.ensures.overs c.into_known.ensures
