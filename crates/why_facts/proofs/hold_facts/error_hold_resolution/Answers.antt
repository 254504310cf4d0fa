use Rattle.std.proofs.Common.{◌∙◌, None, refl, ap, subst}
use Rattle.terms.specs.declared.codes.NeedKind.TheVariants.{HoldError}
use Rattle.terms.specs.Types.{Hold}
use Rattle.report.specs.Facts.{a_requisite, IsResolution}
use Rattle.why_facts.specs.Asking.{setting_in}
use Rattle.report.specs.FactViews.{resolution_view}
use Rattle.why_facts.proofs.hold_facts.error_hold_resolution.Goals as goal

pub returns-in_ok-resolve_requisite-in-Some : goal.returns-in_ok-resolve_requisite-in-Some
returns-in_ok-resolve_requisite-in-Some c =
    let a = c.args.asking.now in
    let answer = resolution_view c.in_ok-resolve_requisite-in-Some.field-0 in (
      answer,
      refl,
      subst (λ reason. IsResolution (setting_in a) a.id (a_requisite HoldError a.id None reason) answer)
          (c.in-Some.ensures.same ∙ ap (λ (h : Hold). h.reason) c.hold.view_is)
          c.in_ok-resolve_requisite-in-Some.ensures,
    )
