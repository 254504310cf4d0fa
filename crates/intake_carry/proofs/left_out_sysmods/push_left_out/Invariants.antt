use Rattle.std.proofs.Common.{◌++◌, List, map, take}
use Rattle.mcs.specs.declared.file.Item.{Item}
use Rattle.intake_read.specs.declared.items.WideSysmod.{WideSysmod}
use Rattle.intake_carry.specs.Unsure.{AreIdsOf, AreLeftOutOf}
use Rattle.intake_carry.proofs.left_out_sysmods.push_left_out.Given as goal

abbrev pub invariant-loop-stated : goal.invariant-loop-stated
invariant-loop-stated l = (items : List Item) → AreIdsOf l.ids items → (before : List WideSysmod)
    → AreLeftOutOf items before (map (λ s. s.now) l.fn.left.items)
    → AreLeftOutOf items (before ++ take l.stated-index l.sysmods) (map (λ s. s.now) l.left.items)
