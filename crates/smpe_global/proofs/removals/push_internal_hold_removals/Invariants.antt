use Rattle.std.proofs.Common.{◌≡◌, ◌++◌, map, filter}
use Rattle.terms.specs.declared.kinds.HoldKind.TheVariants.{System}
use Rattle.terms.specs.Lookups.{holds_of}
use Rattle.smpe_global.specs.Rejections.{removal}
use Rattle.smpe_global.proofs.removals.push_internal_hold_removals.Given as goal

-- with those that are left, all edits
abbrev pub invariant-loop-hold : goal.invariant-loop-hold
invariant-loop-hold l =
    l.edits.items ++ map removal (filter (λ h. h.internal) l.hold-iterator)
    ≡ l.fn.edits.items ++ map removal (filter (λ h. h.internal) (holds_of l.global System l.fn.id))
