use Rattle.std.proofs.Common.{◌≡◌, ◌++◌, Some, map, take}
use Rattle.terms.specs.declared.codes.NeedKind.TheVariants.{Ifreq}
use Rattle.report.specs.Facts.{a_requisite}
use Rattle.why_facts.proofs.requisites.push_ifreqs.Given as goal

abbrev pub invariant-loop-id : goal.invariant-loop-id
invariant-loop-id l =
    l.found.items
    ≡ l.fn.found.items ++ map (a_requisite Ifreq l.fn.by (Some l.condition.function)) (take l.id-index l.id-items)
