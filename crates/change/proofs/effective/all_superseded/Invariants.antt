use Rattle.std.proofs.Common.{◌-◌, ◌^◌, take}
use Rattle.sysmods.specs.Choices.{choice}
use Rattle.change.proofs.TakingEffect.{IsUnderWay}
use Rattle.change.proofs.effective.all_superseded.Given as goal

abbrev pub invariant-loop-id : goal.invariant-loop-id
invariant-loop-id l = IsUnderWay (choice l.vers) l.id-items (take l.id-index l.id-items) l.seen.keys 0

abbrev pub invariant-loop-searched : goal.invariant-loop-searched
invariant-loop-searched l = IsUnderWay (choice l.vers) l.kept l.kept l.seen.keys l.searched

abbrev pub decreases-loop-searched : goal.decreases-loop-searched
decreases-loop-searched l = 2 ^ 63 - l.searched
