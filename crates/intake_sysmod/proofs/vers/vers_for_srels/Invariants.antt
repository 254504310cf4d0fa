use Rattle.std.proofs.Common.{take}
use Rattle.terms.specs.Beside.{Beside}
use Rattle.intake_sysmod.specs.NoLooser.{IsVer}
use Rattle.intake_sysmod.proofs.vers.vers_for_srels.Given as goal

abbrev pub invariant-loop-srel : goal.invariant-loop-srel
invariant-loop-srel l = Beside (λ _ s. IsVer l.stated s.items) (take l.srel-index l.stated.srels.items) l.vers.items
