use Rattle.std.proofs.Common.{◌≡◌, take}
use Rattle.intake_sysmod.proofs.vers.clone_ifs.Given as goal

-- the conditions so far are copied
abbrev pub invariant-loop-condition : goal.invariant-loop-condition
invariant-loop-condition l = l.copies.items ≡ take l.condition-index l.ifs
