use Rattle.std.proofs.Common.{◌≡◌, map, take}
use Rattle.sysmods.specs.Choices.{choice}
use Rattle.smpe_summary.specs.Todo.{taken_off}
use Rattle.smpe_summary.specs.Views.{taken_view}
use Rattle.smpe_summary.proofs.taken.taken_off.Given as goal

abbrev pub invariant-loop-id : goal.invariant-loop-id
invariant-loop-id l =
    map taken_view l.found.items
    ≡ taken_off l.vers.global.now (choice l.vers) l.fn.zone (take l.id-index l.ids)
