use Rattle.std.proofs.Common.{subst, take_all, arith}
use Rattle.terms.specs.Choice.{sup_of}
use Rattle.sysmods.specs.Choices.{choice}
use Rattle.stream.specs.Gaining.{Gains, OneOf}
use Rattle.stream.specs.Lost.{IsLossOf}
use Rattle.stream.proofs.Gaining.{gains_alike, gains_none, gains_next}
use Rattle.stream.proofs.Kept.{suspects_lose}
use Rattle.stream.proofs.elements.append_lost_elements.Goals as goal

pub loop-other-init : goal.loop-other-init
loop-other-init c =
    let vers = c.args.suspects.now.vers.now in
    gains_none (IsLossOf vers.global.now (choice vers) c.args.id) c.args.found.now.items

pub loop-other-preserved : goal.loop-other-preserved
loop-other-preserved c =
    let vers = c.args.suspects.now.vers.now in
    gains_next (IsLossOf vers.global.now (choice vers) c.args.id) c.args.found.now.items
    c.loop-other.found.items c.append_losses.new.found.items c.of-superseded.result.now c.loop-other.other-index
    c.other-item.result (omega arith) c.other-item.is c.loop-other.invariant c.in_ok-append_losses.ensures

pub returns : goal.returns
returns c =
    let vers = c.args.suspects.now.vers.now in
    let loss = IsLossOf vers.global.now (choice vers) c.args.id in
    let ys = c.of-superseded.result.now in
    let old = c.args.found.now.items in
    let new = c.loop-other.found.items in
    gains_alike (OneOf ys loss) (OneOf (sup_of (choice vers) c.args.id) loss) old new
    (suspects_lose vers.global.now (choice vers) c.args.id ys c.of-superseded.ensures)
    (subst (λ l. Gains (OneOf l loss) old new) (take_all c.loop-other.other-index ys (omega arith))
    c.loop-other.invariant)
