use Rattle.std.proofs.Common.{◌≡◌, take}
use Rattle.std.specs.List.{flat_map}
use Rattle.smpe_summary.specs.Groups.{function_of}
use Rattle.smpe_summary.proofs.group_lines.functions_of.Given as goal

abbrev pub invariant-loop-member : goal.invariant-loop-member
invariant-loop-member l =
    l.functions.items ≡ flat_map (λ m. function_of m.group) (take l.member-index l.members)
