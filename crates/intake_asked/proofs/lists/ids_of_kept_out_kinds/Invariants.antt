use Rattle.std.proofs.Common.{◌≡◌, take, map, filter}
use Rattle.intake_asked.specs.declared.known.KnownSysmod.{KnownSysmod}
use Rattle.intake_asked.specs.Words.{is_kept_out}
use Rattle.intake_asked.proofs.lists.ids_of_kept_out_kinds.Given as goal

abbrev pub invariant-loop-sysmod : goal.invariant-loop-sysmod
invariant-loop-sysmod l = map (λ p. p.now) l.ids.items ≡ map (λ (k : KnownSysmod). k.id)
    (filter (λ k. is_kept_out (map (λ m. m.now) l.members) k.kind) (take l.sysmod-index l.known))
