use Rattle.std.proofs.Common.{◌≡◌, ◌++◌, map}
use Rattle.smpe_mend.specs.declared.action.Action.TheVariants.{Disregard}
use Rattle.smpe_mend.specs.Asked.{held}
use Rattle.smpe_mend.proofs.asking.push_held.Given as goal

-- with those of the holds that are left, all of them
abbrev pub invariant-loop-hold : goal.invariant-loop-hold
invariant-loop-hold l =
    l.found.items ++ map (λ h. Disregard l.fn.kind h.reason) l.hold-iterator
    ≡ l.fn.found.items ++ held l.global l.fn.kind l.fn.id
