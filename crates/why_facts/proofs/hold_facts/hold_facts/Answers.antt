use Rattle.std.proofs.Common.{◌∙◌, ◌++◌, ap, subst, sym}
use Rattle.std.proofs.lemmas.Result.{IfOk-weaker}
use Rattle.terms.specs.Beside.{Beside}
use Rattle.terms.specs.declared.kinds.HoldKind.TheVariants.{Error, System, User}
use Rattle.terms.specs.Lookups.{holds_of}
use Rattle.zones.specs.Scopes.{global_of}
use Rattle.report.specs.Facts.{IsHoldFact, holds_on}
use Rattle.why_facts.specs.Asking.{setting_in}
use Rattle.report.specs.FactViews.{fact_view}
use Rattle.why_facts.proofs.Besides.{beside_append}
use Rattle.why_facts.proofs.hold_facts.hold_facts.Goals as goal

pub returns : goal.returns
returns c =
    let a = c.args.asking.now in
    let g = global_of a.scope in
    IfOk-weaker c.join_facts-2.result _ _
    (λ all is. subst (Beside (λ n h fact. IsHoldFact (setting_in a) a.id h (fact_view fact)) (holds_on g a.id))
    (sym (is ∙ ap (λ l. l ++ c.in_ok-users.users.items) c.in_ok-facts.ensures))
    (beside_append (λ h fact. IsHoldFact (setting_in a) a.id h (fact_view fact))
    (holds_of g Error a.id ++ holds_of g System a.id) (holds_of g User a.id) _ _
    (beside_append (λ h fact. IsHoldFact (setting_in a) a.id h (fact_view fact)) (holds_of g Error a.id)
    (holds_of g System a.id) _ _ c.in_ok-errors.ensures c.in_ok-systems.ensures) c.in_ok-users.ensures))
    c.join_facts-2.ensures
