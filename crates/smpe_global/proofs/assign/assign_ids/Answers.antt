use Rattle.std.proofs.Common.{◌≡◌, ◌<◌, ◌+◌, ◌++◌, ◌∷◌, [], ◌∙◌, length, take, sym, ap, subst, arith}
use Rattle.std.proofs.lemmas.List.{take_more}
use Rattle.machine.specs.Receiving.{AssignsId}
use Rattle.machine.specs.Runs.{Runs}
use Rattle.smpe_global.specs.Taken.{IsTaken}
use Rattle.smpe_global.proofs.Items.{none_taken, more_taken}
use Rattle.smpe_global.proofs.assign.assign_ids.Goals as goal

pub loop-id-init : goal.loop-id-init
loop-id-init c = none_taken (AssignsId c.args.source) c.args.global.now c.args.change.now

pub loop-id-preserved : goal.loop-id-preserved
loop-id-preserved c =
    let at = c.loop-id in
    let ids = c.args.ids.now in
    let i = at.id-index in
    let x = c.id-item.result in
    let now = c.assign_id.new in
    let takes = AssignsId c.args.source in
    let old = c.args.global.now in
    let below : i < length ids = omega arith in
    let longer : take (i + 1) ids ≡ take i ids ++ x ∷ [] = take_more ids i x below
    ∙ ap (λ y. take i ids ++ y ∷ []) (sym c.id-item.is) in
    subst (λ xs. IsTaken (Runs takes old xs) old now.global c.args.change.now now.change) (sym longer)
    (more_taken takes old at.global now.global (take i ids) x c.args.change.now at.change now.change at.invariant
    c.in_ok-assign_id.ensures)
