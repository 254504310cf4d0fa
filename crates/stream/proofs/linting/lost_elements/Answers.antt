use Rattle.std.proofs.Common.{[], subst, sym, take_all, arith}
use Rattle.terms.specs.Choice.{sup_of}
use Rattle.sysmods.specs.Choices.{choice}
use Rattle.stream.specs.Gaining.{Gains, OneOf}
use Rattle.stream.specs.Lost.{IsLossOf}
use Rattle.stream.specs.Breaches.{IsLostElement}
use Rattle.stream.proofs.Gaining.{gains_alike, gained, gains_none, gains_next}
use Rattle.stream.proofs.Lost.{all_losses}
use Rattle.stream.proofs.linting.lost_elements.Goals as goal

pub loop-id-init : goal.loop-id-init
loop-id-init c =
    let by = choice c.args.suspects.now.vers.now in
    let g = c.args.suspects.now.vers.now.global.now in
    subst (Gains (OneOf [] (λ x. OneOf (sup_of by x) (IsLossOf g by x))) []) (sym c.new-found.ensures.items)
    (gains_none (λ x. OneOf (sup_of by x) (IsLossOf g by x)) [])

pub loop-id-preserved : goal.loop-id-preserved
loop-id-preserved c =
    let by = choice c.args.suspects.now.vers.now in
    let g = c.args.suspects.now.vers.now.global.now in
    gains_next (λ x. OneOf (sup_of by x) (IsLossOf g by x)) [] c.loop-id.found.items
    c.append_lost_elements.new.found.items c.args.ids.now c.loop-id.id-index c.id-item.result (omega arith)
    c.id-item.is c.loop-id.invariant c.in_ok-append_lost_elements.ensures

pub returns : goal.returns
returns c =
    let by = choice c.args.suspects.now.vers.now in
    let g = c.args.suspects.now.vers.now.global.now in
    let ids = c.args.ids.now in
    let found = c.loop-id.found.items in
    gained (IsLostElement g by) found
    (gains_alike (OneOf ids (λ x. OneOf (sup_of by x) (IsLossOf g by x))) (IsLostElement g by) [] found
    (all_losses c.args.suspects.now.vers.now ids c.requires.ids)
    (subst (λ l. Gains (OneOf l (λ x. OneOf (sup_of by x) (IsLossOf g by x))) [] found)
    (take_all c.loop-id.id-index ids (omega arith)) c.loop-id.invariant))
