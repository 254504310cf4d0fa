use Rattle.std.proofs.Common.{◌≡◌, ◌++◌, take}
use Rattle.std.specs.List.{flat_map}
use Rattle.smpe_certificate.specs.Text.{ineligible_line}
use Rattle.smpe_certificate.proofs.text.append_all_ineligible.Given as goal

abbrev pub invariant-loop-fact : goal.invariant-loop-fact
invariant-loop-fact l =
    l.text.items ≡ l.initial.text.items ++ flat_map ineligible_line (take l.fact-index l.facts)
