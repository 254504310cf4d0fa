use Rattle.std.proofs.Common.{◌≡◌, ◌<◌, ◌∙◌, Bool, true, false, get_or, length, arith, refl}
use mir.Val.{bool_byte}
use Rattle.std.proofs.lemmas.List.Sums.{sum_by_more}
use Rattle.solve.specs.System.{holds}
use Rattle.solve.specs.Rows.{one_if}
use Rattle.solve.proofs.Added.{added_more}
use Rattle.solve.proofs.worklist.index_need.Goals as goal

as_number : (b : Bool) → bool_byte b ≡ one_if b
as_number true = refl
as_number false = refl

pub loop-y-preserved : goal.loop-y-preserved
loop-y-preserved c =
    let i = c.loop-y.y-index in
    let y = get_or c.args.any.now i 0 in
    let below : y < length c.loop-y.served = omega (arith, c.requires.any i 0 c.loop-y-test.true, c.requires.rows) in
    record {
      rows = added_more c.args.served.now c.loop-y.served c.args.any.now i y c.args.need c.push.new.self
          c.index-served-y.result c.loop-y-test.true refl below c.in_ok-push.ensures.items c.loop-y.invariant.rows;
      living = omega (
        arith,
        c.loop-y.invariant.living,
        sum_by_more (λ x. one_if (holds c.args.eligible.now x)) c.args.any.now i 0 c.loop-y-test.true,
        c.from-living.ensures ∙ as_number (holds c.args.eligible.now y),
      );
      turns = omega (arith, c.loop-y.invariant.turns);
    }
