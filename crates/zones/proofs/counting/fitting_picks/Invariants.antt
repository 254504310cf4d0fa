use Rattle.std.proofs.Common.{◌≡◌, ◌++◌, filter, map}
use Rattle.zones.specs.Picks.{fitting_pick, is_further}
use Rattle.zones.proofs.counting.fitting_picks.Given as goal

-- with those of the SYSMODs that are left they are all
abbrev pub invariant-loop-sysmod : goal.invariant-loop-sysmod
invariant-loop-sysmod l =
    l.picks.items ++ filter is_further (map (fitting_pick l.zone l.candidates) l.sysmod-iterator)
    ≡ filter is_further (map (fitting_pick l.zone l.candidates) l.global.sysmods)
