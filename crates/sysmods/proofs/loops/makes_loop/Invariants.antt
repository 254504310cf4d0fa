use Rattle.std.proofs.Common.{ℕ, ◌<◌, get_or}
use Rattle.terms.specs.Types.{Ver}
use Rattle.terms.specs.Over.{Reaches}
use Rattle.terms.specs.Global.{names_for, with_sysmod}
use Rattle.sysmods.specs.Held.{zone_of}
use Rattle.sysmods.proofs.loops.makes_loop.Given as goal

abbrev pub invariant-loop-ver : goal.invariant-loop-ver
invariant-loop-ver l =
    (k : ℕ) (d : Ver) → k < l.ver-index → ¬ Reaches (names_for (with_sysmod (zone_of l.fn.received) l.fn.sysmod)
    (get_or l.ver-items k d).srel) l.fn.sysmod.id l.fn.sysmod.id
