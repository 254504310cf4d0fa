use Rattle.std.proofs.Common.{◌≡◌, ◌++◌, take}
use Rattle.std.specs.List.{flat_map}
use Rattle.smpe_summary.specs.Text.{taken_line}
use Rattle.smpe_summary.specs.Views.{taken_view}
use Rattle.smpe_summary.proofs.text.append_taken_lines.Given as goal

abbrev pub invariant-loop-taken : goal.invariant-loop-taken
invariant-loop-taken l =
    l.text.items ≡ l.initial.text.items ++ flat_map (λ x. taken_line (taken_view x)) (take l.taken-index l.taken_off)
