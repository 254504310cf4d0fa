use Rattle.std.proofs.Common.{◌≡◌, ◌++◌, filter, take}
use Rattle.std.specs.List.{flat_map}
use Rattle.std.specs.Str.{bytes_eq}
use Rattle.report.specs.Facts.{stated_by}
use Rattle.why_facts.proofs.requisites.push_ifreqs_for.Given as goal

abbrev pub invariant-loop-condition : goal.invariant-loop-condition
invariant-loop-condition l =
    l.found.items ≡ l.fn.found.items ++ flat_map (stated_by l.fn.by) (filter (λ i. bytes_eq l.fn.function i.function)
    (take l.condition-index l.conditions))
