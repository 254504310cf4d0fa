use Rattle.terms.specs.declared.codes.NeedKind.TheVariants.{HoldError}
use Rattle.terms.specs.Needs.{asked}
use Rattle.std.proofs.Common.{[]}
use Rattle.zones.specs.Scopes.{setting_of}
use Rattle.judge_needs.proofs.Errors.{AreFound}
use Rattle.judge_needs.proofs.reasons.open_reasons.Given as goal

abbrev pub invariant-loop-hold : goal.invariant-loop-hold
invariant-loop-hold l =
    AreFound l.scope.bypass.now (asked (setting_of l.scope) [] l.fn.id HoldError) l.found.items l.hold-iterator
