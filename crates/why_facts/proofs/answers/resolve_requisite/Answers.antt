use Rattle.std.proofs.Common.{◌∙◌, sym, subst, Contains, true≢false}
use Rattle.std.specs.Prelude.{◌↔◌, IsFalse}
use Rattle.terms.specs.Types.{Id}
use Rattle.terms.proofs.Ids.{Contains_from_is_in, is_in_from_Contains}
use Rattle.terms.specs.Needs.{is_met}
use Rattle.report.specs.Facts.{Requisite, MayServe}
use Rattle.why_facts.specs.Asking.{setting_in, left_in}
use Rattle.why_facts.proofs.answers.resolve_requisite.Goals as goal

pub returns-then-contains : goal.returns-then-contains
returns-then-contains c =
    let a = c.args.asking.now in (
      subst (λ (r : Requisite). IsFalse (is_met (left_in a) r.kind r.id)) c.requisite.view_is
          (sym c.if-meets_need.ensures),
      sym c.if-is_waived.ensures,
      subst (λ (r : Requisite). MayServe (setting_in a) r.kind r.id a.id) c.requisite.view_is
          ((c.in_ok-serving.ensures.1 a.id).0 (Contains_from_is_in c.in_ok-serving.serving a.id
          (sym c.contains.ensures ∙ c.if-contains.true))),
    )

pub returns : goal.returns
returns c =
    let a = c.args.asking.now in (
      subst (λ (r : Requisite). IsFalse (is_met (left_in a) r.kind r.id)) c.requisite.view_is
          (sym c.if-meets_need.ensures),
      sym c.if-is_waived.ensures,
      λ may. true≢false (sym (is_in_from_Contains c.in_ok-serving.serving a.id
          ((c.in_ok-serving.ensures.1 a.id).1
          (subst (λ (r : Requisite). MayServe (setting_in a) r.kind r.id a.id) (sym c.requisite.view_is) may)))
          ∙ sym c.contains.ensures ∙ c.if-contains.false),
      c.in_ok-serving.ensures.0,
      subst (λ (r : Requisite). (y : Id) → Contains c.in_ok-serving.serving y
          ↔ MayServe (setting_in a) r.kind r.id y) c.requisite.view_is c.in_ok-serving.ensures.1,
    )
