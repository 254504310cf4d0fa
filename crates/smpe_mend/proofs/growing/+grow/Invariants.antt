use Rattle.std.proofs.Common.{◌-◌, ◌^◌, length}
use Rattle.smpe_mend.proofs.growing.+grow.Given as goal

-- how many more actions a list may have
abbrev pub decreases-grow : goal.decreases-grow
decreases-grow l = 2 ^ 63 - length l.actions.items
