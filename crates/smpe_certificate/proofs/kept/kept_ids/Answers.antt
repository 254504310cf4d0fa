use Rattle.std.proofs.Common.{[], append-nil, arith, false, get_or, length, refl, sym, true}
use Rattle.std.proofs.lemmas.Option.{slice_get-get_or, slice_get_read, slice_get_within}
use Rattle.solve.proofs.Choosing.{flagged_next}
use Rattle.smpe_certificate.proofs.kept.kept_ids.Goals as goal

pub loop-i-preserved-then-not-flags-i : goal.loop-i-preserved-then-not-flags-i
loop-i-preserved-then-not-flags-i c =
    let ids = c.args.ids.now in
    let old = c.loop-i.kept.items in
    flagged_next ids c.args.flags.now c.loop-i.i (get_or ids c.loop-i.i []) false old old
    (slice_get-get_or ids c.loop-i.i [] (omega arith)) c.if-not-flags-i.true (sym (append-nil old)) c.loop-i.invariant

pub loop-i-preserved : goal.loop-i-preserved
loop-i-preserved c =
    let ids = c.args.ids.now in
    flagged_next ids c.args.flags.now c.loop-i.i c.index-ids-i.result true c.loop-i.kept.items c.push.new.self.items
    (slice_get_read ids (length ids) c.loop-i.i c.index-ids-i.result refl (omega arith) c.index-ids-i.is)
    c.if-not-flags-i.false c.in_ok-push.ensures.items c.loop-i.invariant

pub returns-clause-members : goal.returns-clause-members
returns-clause-members c x =
    let kept = c.loop-i.invariant x in
    let list = c.from_vec.ensures.members x in (
      λ there. let w = kept.0 (list.0 there) in (w.0, w.2, w.3),
      λ w. list.1 (kept.1 (
        w.0,
        (let below = slice_get_within c.args.ids.now w.0 x w.1 in omega (arith, below)),
        w.1,
        w.2,
      )),
    )
