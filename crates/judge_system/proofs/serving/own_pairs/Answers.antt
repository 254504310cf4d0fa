use Rattle.std.proofs.Common.{◌≡◌, length, refl, arith, subst}
use Rattle.std.proofs.lemmas.Option.{slice_get_read}
use Rattle.judge_system.specs.Serving.{AreOwn}
use Rattle.judge_system.proofs.Standing.{own_next, own_none}
use Rattle.judge_system.proofs.serving.own_pairs.Goals as goal

pub loop-i-init : goal.loop-i-init
loop-i-init c = rw c.new-pairs.ensures.items (own_none c.args.ids.now)

pub loop-i-preserved : goal.loop-i-preserved
loop-i-preserved c =
    own_next c.args.ids.now c.loop-i.i c.index-ids-i.result c.loop-i.pairs.items c.push.new.self.items
    (slice_get_read c.args.ids.now (length c.args.ids.now) c.loop-i.i c.index-ids-i.result refl (omega arith)
    c.index-ids-i.is)
    c.in_ok-push.ensures.items c.loop-i.invariant

pub returns : goal.returns
returns c =
    let done : c.loop-i.i ≡ length c.args.ids.now = omega arith in
    subst (λ n. AreOwn c.args.ids.now n c.loop-i.pairs.items) done c.loop-i.invariant
