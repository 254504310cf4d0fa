use Rattle.std.proofs.Common.{take}
use Rattle.terms.specs.Beside.{Beside}
use Rattle.intake_sysmod.specs.NoLooser.{IsIf}
use Rattle.intake_sysmod.proofs.ifs.read_ifs.Given as goal

abbrev pub invariant-loop-statement : goal.invariant-loop-statement
invariant-loop-statement l = Beside (λ _. IsIf) (take l.statement-index l.stated) l.ifs.items
