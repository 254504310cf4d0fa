use Rattle.std.proofs.Common.{◌≡◌, ◌++◌, take}
use Rattle.std.specs.List.{flat_map}
use Rattle.why_verdict.specs.Verdict.{conflict_reason}
use Rattle.why_verdict.proofs.conflict_reasons.append_conflicts.Given as goal

abbrev pub invariant-loop-conflict : goal.invariant-loop-conflict
invariant-loop-conflict l =
    l.text.items ≡ l.initial.text.items ++ flat_map (conflict_reason l.test) (take l.conflict-index l.conflicts)
