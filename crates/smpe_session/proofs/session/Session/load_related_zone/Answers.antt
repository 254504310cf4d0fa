use Rattle.std.proofs.Common.{◌≡◌, ◌≢◌, ◌∙◌, None, rules, subst, sym}
use Rattle.terms.specs.declared.kinds.ZoneKind.TheVariants.{Target}
use Rattle.smpe_session.specs.Places.{HasRelated}
use Rattle.smpe_session.proofs.RelatedZone.{not_target, related_target, related_nowhere, related_none}
use Rattle.smpe_session.proofs.RelatedZone.{related_some}
use Rattle.smpe_session.proofs.Stepping.{unmoved_since}
use Rattle.smpe_session.proofs.Using.{nothing, after, answered, handed_on, load_uses}
use Rattle.smpe_session.proofs.session.Session.load_related_zone.Goals as goal

pub returns-then-eq-clause-uses : goal.returns-then-eq-clause-uses
returns-then-eq-clause-uses g c =
    let same : c.args.kind ≡ Target = search rules in
    answered nothing (λ own none. absurd none) (λ s inventory keeps is. (
      subst (λ k. HasRelated s c.args.self.now k None) (sym same) (related_target s c.args.self.now is),
      keeps,
    ))

pub returns-in_default-clause-uses : goal.returns-in_default-clause-uses
returns-in_default-clause-uses g c =
    let other : c.args.kind ≢ Target = search rules in
    answered nothing (λ own none. absurd none) (λ s inventory keeps is. (
      not_target c.args.kind other (related_nowhere s c.args.self.now is c.in_default.is),
      keeps,
    ))

pub returns-in_err-heads-clause-uses : goal.returns-in_err-heads-clause-uses
returns-in_err-heads-clause-uses g c = handed_on c.from_residual.ensures.1 (load_uses c.in_err-heads.ensures.loads)
    (λ s inventory un is. un)

pub returns-in_default-target_name-clause-uses : goal.returns-in_default-target_name-clause-uses
returns-in_default-target_name-clause-uses g c =
    let other : c.args.kind ≢ Target = search rules in
    answered (load_uses c.in_ok-heads.ensures.loads) (λ own none. absurd none) (λ s inventory loaded is. (
      not_target c.args.kind other (related_none s c.in-Some.name (sym is.boundary ∙ c.in-Some.is)
          c.as_slice.result.now (c.as_slice.ensures.value ∙ loaded.0) c.args.self.now is
          c.in_default-target_name.ensures),
      loaded.1,
    ))

pub returns-in_err-ensure_zone_loaded-clause-uses : goal.returns-in_err-ensure_zone_loaded-clause-uses
returns-in_err-ensure_zone_loaded-clause-uses g c = handed_on c.from_residual-in_err-ensure_zone_loaded.ensures.1
    (after (load_uses c.in_ok-heads.ensures.loads) c.in_err-ensure_zone_loaded.ensures.uses)
    (λ s inventory both is. unmoved_since g.S.Store c.args.store.now c.zone_heads.new.self
    c.ensure_zone_loaded.new.store s (load_uses c.zone_heads.ensures.loads).goes.follows
    c.in_err-ensure_zone_loaded.field-0.0 (both.1 both.0.1 is))

pub returns-clause-uses : goal.returns-clause-uses
returns-clause-uses g c =
    let other : c.args.kind ≢ Target = search rules in
    answered (after (load_uses c.in_ok-heads.ensures.loads) c.in_ok-ensure_zone_loaded.ensures.uses) (λ own none. absurd none)
    (λ s inventory both is.
    let sought = both.1 both.0.1 is in (
      not_target c.args.kind other (related_some s c.in-Some.name (sym is.boundary ∙ c.in-Some.is)
          c.as_slice.result.now (c.as_slice.ensures.value ∙ both.0.0) c.ensure_zone_loaded.new.self
          c.in-Some-target_name.target
          c.in_ok-ensure_zone_loaded.field-0 inventory c.in-Some-target_name.ensures sought.0),
      sought.1,
    ))
