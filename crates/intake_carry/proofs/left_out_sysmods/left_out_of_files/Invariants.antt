use Rattle.std.proofs.Common.{List, map, take}
use Rattle.mcs.specs.declared.file.Item.{Item}
use Rattle.intake_sysmod.specs.Users.{run_of}
use Rattle.intake_carry.specs.Unsure.{AreIdsOf, AreLeftOutOf}
use Rattle.intake_carry.proofs.left_out_sysmods.left_out_of_files.Given as goal

abbrev pub invariant-loop-file : goal.invariant-loop-file
invariant-loop-file l = (items : List Item) → AreIdsOf l.ids items
    → AreLeftOutOf items (run_of (take l.file-index l.files)) (map (λ s. s.now) l.left.items)
