use Rattle.std.proofs.Common.{◌∙◌, ◌++◌, [], ◌∷◌, ap, arith, sym, subst, take, take_all}
use Rattle.std.proofs.lemmas.List.{take_more}
use Rattle.change.specs.Restoring.{ArePutBack}
use Rattle.change.proofs.Reverted.{put_back_none, put_back_next}
use Rattle.change.proofs.restoring.put_all_back.Goals as goal

pub loop-key-init : goal.loop-key-init
loop-key-init c = put_back_none c.args.zone.now c.args.accepted.now c.args.zone_edits.now c.requires

pub loop-key-preserved : goal.loop-key-preserved
loop-key-preserved c =
    let at = c.loop-key in
    let keys = c.args.keys.now in
    let start = c.args.zone_edits.now in
    subst (λ ks. ArePutBack c.args.zone.now c.args.accepted.now ks start c.put_back.new.zone_edits)
    (sym (take_more keys at.key-index c.key-item.result (omega arith)
    ∙ ap (λ k. take at.key-index keys ++ k ∷ []) (sym c.key-item.is)))
    (put_back_next c.args.zone.now c.args.accepted.now (take at.key-index keys) c.key-item.result start
    at.zone_edits c.put_back.new.zone_edits at.invariant c.in_ok-put_back.ensures)

pub returns : goal.returns
returns c =
    subst (λ ks. ArePutBack c.args.zone.now c.args.accepted.now ks c.args.zone_edits.now c.loop-key.zone_edits)
    (take_all c.loop-key.key-index c.args.keys.now (omega arith)) c.loop-key.invariant
