use Rattle.std.proofs.Common.{ap, length, arith}
use Rattle.intake_sysmod.proofs.VersMore.{next_vers}
use Rattle.intake_sysmod.proofs.vers.vers_of_statements.Goals as goal

pub loop-stated-preserved : goal.loop-stated-preserved
loop-stated-preserved c = λ t.
    next_vers c.args.sysmod.now.vers.items c.loop-stated.vers.items c.append.new.self.items c.loop-stated.stated-index
    c.stated-item.result c.in-Some.more.items (omega (arith, ap length c.deref-stated-items.ensures.value))
    (rw c.deref-stated-items.ensures.value at c.stated-item.is) c.in_ok-append.ensures.items
    (rw c.in-Some.is at c.in_ok-more.ensures) (c.loop-stated.invariant t)
