use Rattle.std.proofs.Common.{◌≡◌, ◌∙◌, Some, arith, length, refl, slice_get, sym}
use Rattle.std.proofs.lemmas.Option.{slice_get_read}
use Rattle.judge_system.proofs.Failing.{adds_one, adds_none, failures_next}
use Rattle.judge_system.proofs.failures.failures.Goals as goal

pub loop-i-preserved-then-contains : goal.loop-i-preserved-then-contains
loop-i-preserved-then-contains c =
    let ids = c.args.ids.now in
    let i = c.loop-i.i in
    let id = c.index-ids-i.result in
    let old = c.loop-i.failed.items in
    let at : slice_get ids i ≡ Some id = slice_get_read ids (length ids) i id refl (omega arith) c.index-ids-i.is in
    failures_next ids c.args.kept.now c.args.findings.now i id old old at
    (adds_none ids c.args.kept.now c.args.findings.now i id old at (sym c.contains.ensures ∙ c.if-contains.true))
    c.loop-i.invariant

pub loop-i-preserved : goal.loop-i-preserved
loop-i-preserved c =
    let ids = c.args.ids.now in
    let i = c.loop-i.i in
    let id = c.index-ids-i.result in
    let old = c.loop-i.failed.items in
    let new = c.push.new.self.items in
    let at : slice_get ids i ≡ Some id = slice_get_read ids (length ids) i id refl (omega arith) c.index-ids-i.is in
    failures_next ids c.args.kept.now c.args.findings.now i id old new at
    (adds_one ids c.args.kept.now c.args.findings.now i id c.in_ok-failure.failure old new at
    (sym c.contains.ensures ∙ c.if-contains.false) c.in_ok-push.ensures.items c.in_ok-failure.ensures)
    c.loop-i.invariant
