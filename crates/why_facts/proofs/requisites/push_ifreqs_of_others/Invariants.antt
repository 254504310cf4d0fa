use Rattle.std.proofs.Common.{◌≡◌, ◌++◌, ◌&&◌, not, filter, take}
use Rattle.std.specs.List.{flat_map}
use Rattle.std.specs.Str.{bytes_eq}
use Rattle.terms.specs.Lookups.{is_applied}
use Rattle.zones.specs.Scopes.{choice_of}
use Rattle.report.specs.Facts.{conditions_of}
use Rattle.why_facts.specs.Asking.{view_in}
use Rattle.why_facts.proofs.requisites.push_ifreqs_of_others.Given as goal

abbrev pub invariant-loop-by : goal.invariant-loop-by
invariant-loop-by l =
    l.found.items ≡ l.fn.found.items ++ flat_map (conditions_of (choice_of l.asking.scope) (bytes_eq l.asking.id))
    (filter (λ y. is_applied (view_in l.asking) y && not (bytes_eq l.asking.id y)) (take l.by-index l.ids))
