use Rattle.std.proofs.Common.{take}
use Rattle.smpe_mend.proofs.Gaining.{HasGained}
use Rattle.smpe_mend.proofs.growing.add_new.Given as goal

abbrev pub invariant-loop-action : goal.invariant-loop-action
invariant-loop-action l = HasGained l.fn.actions.items l.actions.items (take l.action-index l.more)
