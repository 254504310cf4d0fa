use Rattle.std.proofs.Common.{◌<◌, get_or, length, arith, refl}
use Rattle.solve.proofs.Added.{added_more}
use Rattle.smpe_certificate.proofs.serving.add_to_rows.Goals as goal

pub loop-y-preserved : goal.loop-y-preserved
loop-y-preserved c =
    let y = get_or c.args.list.now c.loop-y.y-index 0 in
    let below : y < length c.loop-y.rows = omega (arith, c.requires c.loop-y.y-index 0 c.loop-y-test.true) in
    added_more c.args.rows.now c.loop-y.rows c.args.list.now c.loop-y.y-index y c.args.value c.push.new.self
    c.index-rows-y.result c.loop-y-test.true refl below
    c.in_ok-push.ensures.items
    c.loop-y.invariant
