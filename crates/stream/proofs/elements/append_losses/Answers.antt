use Rattle.std.proofs.Common.{◌∙◌, sym, ap, subst₂, take_all, arith}
use Rattle.terms.specs.Lookups.{changes_of}
use Rattle.sysmods.specs.Choices.{choice}
use Rattle.stream.specs.Gaining.{Gains, OneOf}
use Rattle.stream.specs.Lost.{IsLostStatement}
use Rattle.stream.proofs.Gaining.{gains_next}
use Rattle.stream.proofs.Lost.{losses_gained}
use Rattle.stream.proofs.elements.append_losses.Goals as goal

pub loop-change-preserved : goal.loop-change-preserved
loop-change-preserved c =
    gains_next (IsLostStatement c.global-global.result.now c.args.superseding c.args.superseded) c.args.found.now.items
    c.loop-change.found.items c.append_if_lost.new.found.items c.changes_of-changes.result.now
    c.loop-change.change-index c.change-item.result (omega arith) c.change-item.is c.loop-change.invariant
    c.in_ok-append_if_lost.ensures

pub returns : goal.returns
returns c =
    let g = c.args.vers.now.global.now in
    let x = c.args.superseding in
    let y = c.args.superseded in
    let zone = c.global-global.ensures in
    losses_gained g (choice c.args.vers.now) x y c.args.found.now.items c.loop-change.found.items
    (sym c.is_in_stream.ensures ∙ c.if-not-is_in_stream.false)
    (subst₂ (λ l h. Gains (OneOf l (IsLostStatement h x y)) c.args.found.now.items c.loop-change.found.items)
    (take_all c.loop-change.change-index c.changes_of-changes.result.now (omega arith) ∙ c.changes_of-changes.ensures
    ∙ ap (λ h. changes_of h y) zone) zone c.loop-change.invariant)
