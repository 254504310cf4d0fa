use Rattle.std.proofs.Common.{◌≡◌, ◌++◌, None, map, take}
use Rattle.report.specs.Facts.{a_requisite}
use Rattle.why_facts.proofs.requisites.push_requisites_of_kind.Given as goal

abbrev pub invariant-loop-id : goal.invariant-loop-id
invariant-loop-id l =
    l.found.items ≡ l.fn.found.items ++ map (a_requisite l.fn.kind l.fn.by None) (take l.id-index l.ids)
