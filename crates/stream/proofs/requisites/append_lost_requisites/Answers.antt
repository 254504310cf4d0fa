use Rattle.std.proofs.Common.{subst, take_all, arith}
use Rattle.terms.specs.Choice.{sup_of}
use Rattle.sysmods.specs.Choices.{choice}
use Rattle.stream.specs.Gaining.{Gains, OneOf}
use Rattle.stream.specs.Lost.{IsLackOf}
use Rattle.stream.proofs.Gaining.{gains_alike, gains_none, gains_next}
use Rattle.stream.proofs.Kept.{suspects_lack}
use Rattle.stream.proofs.requisites.append_lost_requisites.Goals as goal

pub loop-other-init : goal.loop-other-init
loop-other-init c = gains_none (IsLackOf (choice c.args.suspects.now.vers.now) c.args.id) c.args.found.now.items

pub loop-other-preserved : goal.loop-other-preserved
loop-other-preserved c =
    gains_next (IsLackOf (choice c.args.suspects.now.vers.now) c.args.id) c.args.found.now.items
    c.loop-other.found.items c.append_lacks.new.found.items c.of-superseded.result.now c.loop-other.other-index
    c.other-item.result (omega arith) c.other-item.is c.loop-other.invariant c.in_ok-append_lacks.ensures

pub returns : goal.returns
returns c =
    let vers = c.args.suspects.now.vers.now in
    let lack = IsLackOf (choice vers) c.args.id in
    let ys = c.of-superseded.result.now in
    let old = c.args.found.now.items in
    let new = c.loop-other.found.items in
    gains_alike (OneOf ys lack) (OneOf (sup_of (choice vers) c.args.id) lack) old new
    (suspects_lack vers.global.now (choice vers) c.args.id ys c.of-superseded.ensures)
    (subst (λ l. Gains (OneOf l lack) old new) (take_all c.loop-other.other-index ys (omega arith))
    c.loop-other.invariant)
