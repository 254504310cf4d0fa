use Rattle.std.proofs.Common.{◌∙◌, ap, sym, subst}
use Rattle.terms.specs.Types.{Zone}
use Rattle.terms.specs.Deleted.{deletions}
use Rattle.terms.specs.Install.{HasInstalled}
use Rattle.sysmods.specs.Choices.{choice}
use Rattle.zones_maps.specs.Delta.{IsEdited}
use Rattle.zones_maps.specs.Differing.{EachChanges}
use Rattle.change.specs.Plans.{installation_of}
use Rattle.change.proofs.installing.install.Goals as goal

pub edits_of-requires-clause-dels : goal.edits_of-requires-clause-dels
edits_of-requires-clause-dels c =
    c.as_slice-dels.ensures.value ∙ c.in_ok-dels.ensures
    ∙ ap (deletions (choice c.vers.result.now)) c.as_slice.ensures.items
    ∙ ap (λ v. deletions (choice v) c.args.installing.kept.now) c.vers.ensures

pub edits_of-requires-clause-plan : goal.edits_of-requires-clause-plan
edits_of-requires-clause-plan c = c.in_ok-plan.ensures

pub returns-clause-installs : goal.returns-clause-installs
returns-clause-installs c =
    let is = c.args.installing in
    subst (λ edits. (new : Zone) → IsEdited edits is.zone.now new → HasInstalled (installation_of is) new)
    (sym c.in_ok-from_edits.ensures.0) c.in_ok-zone_edits.ensures.installs

pub returns-clause-differs : goal.returns-clause-differs
returns-clause-differs c =
    subst (EachChanges c.args.installing.zone.now) (sym c.in_ok-from_edits.ensures.0) c.in_ok-zone_edits.ensures.differs

pub returns-clause-effective : goal.returns-clause-effective
returns-clause-effective c = c.in_ok-plan.ensures.effective
