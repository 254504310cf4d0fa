use Rattle.std.proofs.Common.{◌≡◌}
use Rattle.smpe_lint.proofs.receiving.take_holds.Given as goal

abbrev pub invariant-loop-item : goal.invariant-loop-item
invariant-loop-item l = l.global.sysmods ≡ l.fn.global.sysmods
