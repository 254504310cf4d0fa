use Rattle.std.proofs.Common.{◌≡◌, ◌++◌, take}
use Rattle.std.specs.List.{flat_map}
use Rattle.smpe_certificate.specs.Text.{dropped_line}
use Rattle.smpe_certificate.specs.Views.{dropped_view}
use Rattle.smpe_certificate.proofs.text.append_all_dropped.Given as goal

abbrev pub invariant-loop-fact : goal.invariant-loop-fact
invariant-loop-fact l =
    l.text.items ≡ l.initial.text.items ++ flat_map (λ f. dropped_line (dropped_view f)) (take l.fact-index l.facts)
