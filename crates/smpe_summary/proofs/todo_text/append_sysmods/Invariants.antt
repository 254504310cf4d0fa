use Rattle.std.proofs.Common.{◌≡◌, ◌++◌, take}
use Rattle.std.specs.List.{flat_map}
use Rattle.smpe_summary.specs.Text.{sysmod_line}
use Rattle.smpe_summary.proofs.todo_text.append_sysmods.Given as goal

abbrev pub invariant-loop-id : goal.invariant-loop-id
invariant-loop-id l =
    l.text.items ≡ l.initial.text.items ++ flat_map (sysmod_line l.fn.zone l.fn.kind l.fn.steps) (take l.id-index l.ids)
