use Rattle.std.proofs.Common.{◌≡◌, ◌++◌, filter}
use Rattle.terms.specs.Lookups.{is_in}
use Rattle.terms.specs.Global.{names_for}
use Rattle.sysmods.specs.Held.{zone_of}
use Rattle.sysmods.proofs.received.Received.append_namers_among.Given as goal

abbrev pub invariant-loop-candidate : goal.invariant-loop-candidate
invariant-loop-candidate l =
    l.found.items ++ filter (λ y. is_in (names_for (zone_of l.self) l.srel y) l.id) l.candidate-iterator
    ≡ l.fn.found.items ++ filter (λ y. is_in (names_for (zone_of l.self) l.srel y) l.id) l.candidates.keys
