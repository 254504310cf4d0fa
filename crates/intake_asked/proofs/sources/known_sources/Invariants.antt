use Rattle.std.proofs.Common.{◌≡◌, take, map}
use Rattle.std.specs.List.{flat_map}
use Rattle.intake_asked.specs.declared.known.KnownSysmod.{KnownSysmod}
use Rattle.intake_asked.proofs.sources.known_sources.Given as goal

abbrev pub invariant-loop-sysmod : goal.invariant-loop-sysmod
invariant-loop-sysmod l = map (λ p. p.now) l.all.items
    ≡ flat_map (λ (k : KnownSysmod). k.sources.items) (take l.sysmod-index l.known)
