use Rattle.std.proofs.Common.{◌≡◌, subst}
use Rattle.std.specs.Prelude.{IfOk}
use Rattle.terms.specs.Lookups.{is_applied}
use Rattle.terms.specs.Needs.{binding_ids}
use Rattle.terms.proofs.NothingDeleted.{zone_less_none}
use Rattle.sysmods.specs.Choices.{choice}
use Rattle.zones.proofs.binding.binding_requisites.Goals as goal

pub returns : goal.returns
returns c =
    let zone = c.args.zone.now in
    subst (λ z. IfOk c.binding_ids.result (λ ids. ids.items
    ≡ binding_ids (choice c.args.vers.now) zone (is_applied z) c.args.id))
    (zone_less_none c.args.vers.now.global.now (choice c.args.vers.now) zone c.attest.ensures.held)
    c.binding_ids.ensures
