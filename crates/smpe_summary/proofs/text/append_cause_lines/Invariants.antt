use Rattle.std.proofs.Common.{◌≡◌, ◌++◌, take}
use Rattle.std.specs.List.{flat_map}
use Rattle.smpe_summary.specs.Text.{cause_line}
use Rattle.smpe_summary.specs.Views.{cause_view}
use Rattle.smpe_summary.proofs.text.append_cause_lines.Given as goal

abbrev pub invariant-loop-cause : goal.invariant-loop-cause
invariant-loop-cause l =
    l.text.items ≡ l.initial.text.items ++ flat_map (λ x. cause_line (cause_view x)) (take l.cause-index l.causes)
