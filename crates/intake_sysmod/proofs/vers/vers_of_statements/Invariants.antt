use Rattle.std.proofs.Common.{take, IsTrue}
use Rattle.intake_sysmod.specs.NoLooser.{AreVers}
use Rattle.intake_sysmod.proofs.vers.vers_of_statements.Given as goal

abbrev pub invariant-loop-stated : goal.invariant-loop-stated
invariant-loop-stated l = IsTrue l.has_all → AreVers (take l.stated-index l.sysmod.vers.items) l.vers.items
