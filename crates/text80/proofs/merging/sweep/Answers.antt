use Rattle.std.proofs.Common.{subst}
use Rattle.std.proofs.lemmas.List.{drop_all}
use Rattle.text80.specs.Merging.{IsSwept}
use Rattle.text80.proofs.Sweeping.{swept_at}
use Rattle.text80.proofs.merging.sweep.Goals as goal

pub returns-then-range-number-clause-swept : goal.returns-then-range-number-clause-swept
returns-then-range-number-clause-swept c all s = rw c.split_at.ensures.back (c.loop-i.invariant all s)

pub loop-i-preserved : goal.loop-i-preserved
loop-i-preserved c all s =
    rw (c.max-end.ensures, c.from.ensures) (swept_at all c.args.ranges.now c.args.number c.loop-i.i _ c.loop-i.end
    c.loop-i-test.true c.if-range-number.false (c.loop-i.invariant all s))

pub returns-clause-swept : goal.returns-clause-swept
returns-clause-swept c all s =
    subst (λ l. IsSwept all c.args.number l c.loop-i.end) (drop_all c.loop-i.i c.args.ranges.now c.loop-i-test.false)
    (c.loop-i.invariant all s)
