use Rattle.std.proofs.Common.{arith}
use Rattle.terms.proofs.BesideLists.{beside_next}
use Rattle.intake_sysmod.specs.NoLooser.{IsIf}
use Rattle.intake_sysmod.proofs.ifs.read_ifs.Goals as goal

pub loop-statement-preserved : goal.loop-statement-preserved
loop-statement-preserved c =
    beside_next (λ _. IsIf) c.args.stated.now c.loop-statement.ifs.items c.push.new.self.items
    c.loop-statement.statement-index c.statement-item.result c.in-Some.condition (omega arith) c.statement-item.is
    c.in_ok-push.ensures.items (rw c.in-Some.is at c.in_ok-condition.ensures) c.loop-statement.invariant
