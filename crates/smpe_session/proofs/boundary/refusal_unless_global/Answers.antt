use Rattle.std.proofs.Common.{◌∙◌, Some, ap, sym, true≢false}
use Rattle.smpe_session.proofs.Places.{at_nowhere, at_global_holds, at_elsewhere}
use Rattle.smpe_session.proofs.boundary.refusal_unless_global.Goals as goal

pub returns-in_default-clause-refused : goal.returns-in_default-clause-refused
returns-in_default-clause-refused c = λ s at. at_nowhere s (at ∙ c.in_default.is)

pub returns-then-is_global-clause-refused : goal.returns-then-is_global-clause-refused
returns-then-is_global-clause-refused c = λ s at. at_global_holds s c.in-Some.name (at ∙ c.in-Some.is)
    (c.is_global.ensures.0 c.if-is_global.true)

pub returns-then-is_global-clause-global : goal.returns-then-is_global-clause-global
returns-then-is_global-clause-global c none =
    c.in-Some.is ∙ ap (λ n. Some n) (c.is_global.ensures.0 c.if-is_global.true)

pub returns-clause-refused : goal.returns-clause-refused
returns-clause-refused c = λ s at. at_elsewhere s c.in-Some.name (at ∙ c.in-Some.is)
    (λ is. true≢false (sym (c.is_global.ensures.1 is) ∙ c.if-is_global.false))
