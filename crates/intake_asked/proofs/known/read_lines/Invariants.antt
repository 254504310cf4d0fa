use Rattle.std.proofs.Common.{◌≡◌, ◌++◌, List, map, take}
use Rattle.intake_asked.specs.Known.{LinesBecome}
use Rattle.intake_asked.specs.declared.known.KnownSysmod.{KnownSysmod}
use Rattle.intake_asked.proofs.known.read_lines.Given as goal

-- the SYSMODs of the lines so far
abbrev pub invariant-loop-line : goal.invariant-loop-line
invariant-loop-line l = (more : List KnownSysmod) × (l.sysmods.items ≡ l.fn.sysmods.items ++ more)
    × LinesBecome (map (λ line. line.now) (take l.line-index l.lines)) more
