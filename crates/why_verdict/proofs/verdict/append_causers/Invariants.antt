use Rattle.std.proofs.Common.{◌≡◌, ◌++◌, take}
use Rattle.std.specs.List.{flat_map}
use Rattle.why_verdict.specs.Verdict.{causer_told}
use Rattle.why_verdict.proofs.verdict.append_causers.Given as goal

abbrev pub invariant-loop-causer : goal.invariant-loop-causer
invariant-loop-causer l =
    l.text.items ≡ l.initial.text.items ++ flat_map (causer_told l.id) (take l.causer-index l.causers)
