use Rattle.std.proofs.Common.{◌≡◌, map, take}
use Rattle.store_migration.specs.Moved.{head_of}
use Rattle.store_migration.proofs.head.copy_heads.Given as goal

-- the heads so far
abbrev pub invariant-loop-sysmod : goal.invariant-loop-sysmod
invariant-loop-sysmod l = l.heads.items ≡ map head_of (take l.sysmod-index l.sysmods)
