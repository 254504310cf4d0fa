use Rattle.std.proofs.Common.{◌≡◌, ◌++◌, map}
use Rattle.stream.proofs.first_vers.received_ids.Given as goal

abbrev pub invariant-loop-sysmod : goal.invariant-loop-sysmod
invariant-loop-sysmod l = l.ids.items ++ map (λ s. s.id) l.sysmod-iterator ≡ map (λ s. s.id) l.global.sysmods
