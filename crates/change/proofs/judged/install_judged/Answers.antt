use Rattle.std.proofs.Common.{◌≡◌, ◌∙◌, Contains, IfOk, ap, filter, sym, subst}
use Rattle.std.specs.Prelude.{◌↔◌}
use Rattle.zones_maps.specs.Delta.{IsChanged}
use Rattle.terms.specs.Types.{Id, Zone}
use Rattle.terms.specs.Lookups.{is_in}
use Rattle.terms.specs.Install.{HasInstalled, TakesEffect}
use Rattle.change.specs.Elements.{HasBases}
use Rattle.change.specs.Together.{install_by, install_of}
use Rattle.change.proofs.judged.install_judged.Goals as goal
use Rattle.change.proofs.judged.install_judged.Goals.{After-as_slice-2}

-- what is installed
same : (c : After-as_slice-2)
    → install_by c.args.judged.vers c.args.zone.now c.args.kept.now c.as_slice-2.result.now c.args.date
    ≡ install_of c.args.judged c.args.zone.now c.args.kept.now c.args.date
same c =
    ap (λ pairs. install_by c.args.judged.vers c.args.zone.now c.args.kept.now pairs c.args.date)
    (c.as_slice-2.ensures.value ∙ c.in_ok-bypassed.ensures
    ∙ ap (filter (λ (p : Id × Id). is_in c.args.kept.now p.0)) c.as_slice.ensures.value)

pub install_kept-requires-clause-base : goal.install_kept-requires-clause-base
install_kept-requires-clause-base c = subst HasBases (sym (same c)) (c.requires.base c.args.date)

pub returns-clause-installs : goal.returns-clause-installs
returns-clause-installs c =
    subst (λ is. IfOk c.install_kept.result
    (λ i. (new : Zone) → IsChanged i.delta c.args.zone.now new → HasInstalled is new))
    (same (goal.at.returns-clause-installs c).After-as_slice-2) c.install_kept.ensures.installs

pub returns-clause-effective : goal.returns-clause-effective
returns-clause-effective c =
    subst (λ is. IfOk c.install_kept.result (λ i. (x : Id) → Contains i.effective x ↔ TakesEffect is x))
    (same (goal.at.returns-clause-effective c).After-as_slice-2) c.install_kept.ensures.effective
