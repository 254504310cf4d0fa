use Rattle.std.proofs.Common.{◌≡◌, ◌++◌, map}
use Rattle.std.specs.List.{flat_map}
use Rattle.terms.specs.declared.kinds.HoldKind.TheVariants.{Error}
use Rattle.terms.specs.Lookups.{holds_of}
use Rattle.select.proofs.ErrorReasons.{error_reason}
use Rattle.select.proofs.scope.Selecting.error_reasons.Given as goal

abbrev pub invariant-loop-hold : goal.invariant-loop-hold
invariant-loop-hold l =
    l.ids.items ++ flat_map error_reason l.hold-iterator
    ≡ map (λ h. h.reason) (holds_of l.self.global Error l.fn.id)
