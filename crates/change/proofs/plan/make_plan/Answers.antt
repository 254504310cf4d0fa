use Rattle.std.proofs.Common.{◌++◌, ap₂, subst, map}
use Rattle.std.specs.Prelude.{◌↔◌, Contains}
use Rattle.terms.specs.Types.{Id}
use Rattle.terms.specs.Global.{IsGlobal}
use Rattle.terms.specs.Install.{Installation, TakesEffect}
use Rattle.sysmods.specs.Choices.{choice}
use Rattle.change.specs.Deleting.{at_stake}
use Rattle.change.specs.Pairs.{AreGrouped}
use Rattle.change.specs.Plans.{installation_by, IsPlan}
use Rattle.change.proofs.ChosenVers.{looked_up, never_itself}
use Rattle.change.proofs.Planned.{is_plan}
use Rattle.change.proofs.TakingEffect.{takes_effect}
use Rattle.change.proofs.plan.make_plan.Goals as goal

pub returns : goal.returns
returns c =
    let vers = c.vers-vers.result.now in
    let i : Installation = installation_by vers c.args.installing.now in
    let dels = c.args.dels.now in
    let effective = c.in_ok-ids.field-0.ids in
    let touched = c.in_ok-touched.touched in
    let pairs = c.in_ok-ids.field-0.superseded.items in
    let is_global : IsGlobal vers.global.now = rw c.global.ensures at c.attest.ensures in
    let never = never_itself vers.global.now vers.srel (choice vers) (looked_up vers) is_global.no_loop in
    let effect : (x : Id) → Contains effective x ↔ TakesEffect i x = λ x.
    let un = c.in_ok-ids.ensures.ids x in
    let takes = takes_effect i never x in
    (λ h. takes.0 (un.0 h), λ h. un.1 (takes.1 h)) in
    subst (λ v. IsPlan (installation_by v c.args.installing.now) dels (record {
      effective = effective;
      superseders = c.in_ok-superseders.superseders;
      bypassed = c.in_ok-bypassed.bypassed;
      touched = touched;
      date = i.date;
    })) c.vers-vers.ensures
    (is_plan i dels effective touched pairs c.in_ok-superseders.superseders
    c.in_ok-bypassed.bypassed effect c.in_ok-ids.ensures.superseded
    (subst (λ ids. (x : Id) → Contains touched x ↔ Contains ids x)
    (ap₂ (λ xs ys. (map (λ p. p.0) xs ++ ys) ++ at_stake i.zone dels) c.as_slice-superseded.ensures.value
    c.as_slice.ensures.items)
    c.in_ok-touched.ensures)
    (subst (λ ps. AreGrouped ps c.in_ok-superseders.superseders) c.as_slice-superseded.ensures.value
    c.in_ok-superseders.ensures)
    c.in_ok-bypassed.ensures)
