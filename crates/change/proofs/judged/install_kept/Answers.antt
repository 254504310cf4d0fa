use Rattle.std.proofs.Common.{◌≢◌, ◌⊎◌, Contains, IfOk, sym, subst}
use Rattle.std.specs.Prelude.{◌↔◌}
use Rattle.zones_maps.specs.Delta.{IsChanged}
use Rattle.terms.specs.Types.{Id, Zone}
use Rattle.terms.specs.Install.{HasInstalled, TakesEffect}
use Rattle.terms.specs.Over.{IsOver}
use Rattle.terms.specs.Tests.{ShareElement}
use Rattle.sysmods.specs.Choices.{choice}
use Rattle.change.specs.Elements.{HasBases}
use Rattle.change.specs.Together.{install_by}
use Rattle.change.proofs.judged.install_kept.Goals as goal

pub install-requires-clause-order : goal.install-requires-clause-order
install-requires-clause-order c =
    let kept = c.args.kept.now in
    subst (λ v. (x y : Id) → Contains kept x → Contains kept y → x ≢ y → ShareElement v.global.now x y
    → IsOver (choice v) x y ⊎ IsOver (choice v) y x) (sym c.resume.ensures) c.requires.order

pub install-requires-clause-base : goal.install-requires-clause-base
install-requires-clause-base c =
    subst (λ v. HasBases (install_by v c.args.zone.now c.args.kept.now c.args.bypassed.now c.args.date))
    (sym c.resume.ensures) c.requires.base

pub returns-clause-installs : goal.returns-clause-installs
returns-clause-installs c =
    let zone = c.args.zone.now in
    subst (λ v. IfOk c.install.result (λ i. (new : Zone) → IsChanged i.delta zone new
    → HasInstalled (install_by v zone c.args.kept.now c.args.bypassed.now c.args.date) new)) c.resume.ensures
    c.install.ensures.installs

pub returns-clause-effective : goal.returns-clause-effective
returns-clause-effective c =
    subst (λ v. IfOk c.install.result (λ i. (x : Id) → Contains i.effective x
    ↔ TakesEffect (install_by v c.args.zone.now c.args.kept.now c.args.bypassed.now c.args.date) x)) c.resume.ensures
    c.install.ensures.effective
