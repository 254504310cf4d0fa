use Rattle.std.proofs.Common.{◌∷◌, ◌++◌, [], ◌∙◌, sym, ap, subst, take, rules}
use Rattle.std.proofs.lemmas.List.{take_more}
use Rattle.smpe_global.specs.Rejections.{AreRejected}
use Rattle.smpe_global.proofs.Ids.{each_fits, more_rejected}
use Rattle.smpe_global.proofs.rejected.reject.Goals as goal

pub loop-id-init : goal.loop-id-init
loop-id-init c =
    let none : AreRejected c.args.zones.now c.args.global.now [] c.args.global.now [] [] = search rules in
    rw (c.new-change.ensures.edits, c.new-change.ensures.lines) none

pub loop-id-preserved : goal.loop-id-preserved
loop-id-preserved c =
    let at = c.loop-id in
    let zones = c.args.zones.now in
    let g = c.args.global.now in
    let all = c.as_slice-id-items.result.now in
    let x = c.id-item.result in
    let new = c.reject_id.new in
    subst (λ ids. AreRejected zones g ids new.global new.change.edits.items new.change.lines.items)
    (ap (λ y. take at.id-index all ++ y ∷ []) c.id-item.is ∙ sym (take_more all at.id-index x c.loop-id-test.true))
    (more_rejected zones g at.global new.global (take at.id-index all) x at.change.edits.items
    new.change.edits.items at.change.lines.items new.change.lines.items at.invariant
    c.in_ok-reject_id.ensures)

pub returns-clause-fits : goal.returns-clause-fits
returns-clause-fits c stated =
    each_fits stated c.loop-id.change.edits.items c.args.global.now c.loop-id.invariant.rejects

pub returns-clause-rejects : goal.returns-clause-rejects
returns-clause-rejects c = c.loop-id.invariant.rejects
