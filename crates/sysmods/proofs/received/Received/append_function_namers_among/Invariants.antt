use Rattle.std.proofs.Common.{◌≡◌, ◌++◌, filter}
use Rattle.sysmods.specs.Namers.{names_as_function}
use Rattle.sysmods.proofs.received.Received.append_function_namers_among.Given as goal

abbrev pub invariant-loop-candidate : goal.invariant-loop-candidate
invariant-loop-candidate l =
    l.found.items ++ filter (names_as_function l.self l.id) l.candidate-iterator
    ≡ l.fn.found.items ++ filter (names_as_function l.self l.id) l.candidates.keys
