use Rattle.std.proofs.Common.{◌≡◌, ◌++◌, filter, take}
use Rattle.std.specs.List.{flat_map}
use Rattle.report.specs.Facts.{stated_by}
use Rattle.why_facts.specs.Asking.{is_there}
use Rattle.why_facts.proofs.requisites.push_own_ifreqs.Given as goal

abbrev pub invariant-loop-condition : goal.invariant-loop-condition
invariant-loop-condition l =
    l.found.items ≡ l.fn.found.items ++ flat_map (stated_by l.asking.id) (filter (λ i. is_there l.asking i.function)
    (take l.condition-index l.conditions))
