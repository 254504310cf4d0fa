use Rattle.std.proofs.Common.{take}
use Rattle.std.specs.Ordering.{nat_cmp}
use Rattle.std.specs.Cmp.Lexicographic.{slice_cmp}
use Rattle.sorted.specs.MultiMap.{Holds, OneOf}
use Rattle.sysmods.specs.Choices.{choice}
use Rattle.smpe_summary.specs.Superseding.{SupersedesBy}
use Rattle.smpe_summary.proofs.superseding.superseders.Given as goal

abbrev pub invariant-loop-id : goal.invariant-loop-id
invariant-loop-id l =
    Holds (slice_cmp nat_cmp) l.supers (OneOf (take l.id-index l.ids) (SupersedesBy (choice l.vers)))
