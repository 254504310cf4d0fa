use Rattle.std.proofs.Common.{take, IsTrue}
use Rattle.std.specs.Prelude.{All}
use Rattle.intake_sysmod.specs.NoLooser.{IsHarmlessOther}
use Rattle.intake_sysmod.proofs.others.tell_other_statements.Given as goal

abbrev pub invariant-loop-other : goal.invariant-loop-other
invariant-loop-other l = IsTrue l.may_lack_all → All (IsHarmlessOther l.options.decide) (take l.other-index l.others)
