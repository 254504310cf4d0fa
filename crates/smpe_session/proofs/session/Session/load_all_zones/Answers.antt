use Rattle.std.proofs.Common.{◌∙◌, arith, refl, rules, subst}
use Rattle.std.proofs.lemmas.List.{take_all}
use Rattle.smpe_session.specs.KnownZones.{AreSought}
use Rattle.smpe_session.proofs.AllZones.{all_zones, sought_more}
use Rattle.smpe_session.proofs.Stepping.{unmoved_since}
use Rattle.smpe_session.proofs.Using.{after, answered, handed_on, load_uses}
use Rattle.smpe_session.proofs.session.Session.load_all_zones.Goals as goal

pub returns-in_err-names-clause-uses : goal.returns-in_err-names-clause-uses
returns-in_err-names-clause-uses g c = handed_on c.from_residual.ensures.1 (load_uses c.in_err-names.ensures)
    (λ s inventory un is. un)

pub loop-name-init : goal.loop-name-init
loop-name-init g c = record {
  uses = answered (load_uses c.in_ok-names.ensures) (λ own none. absurd none)
      (λ s inventory loaded is. (
        (c.as_slice-name-items.ensures.value ∙ loaded.0, record { session = is; here = search rules }),
        loaded.1,
      ));
  boundary = refl;
}

pub loop-name-preserved : goal.loop-name-preserved
loop-name-preserved g c = record {
  uses = answered (after c.loop-name.invariant.uses c.in_ok-ensure_zone_loaded.ensures.uses)
      (λ own none. absurd none)
      (λ s inventory both is.
      let before = both.0 is in
      let found = both.1 before.1 before.0.1.session in (
        (
          before.0.0,
          sought_more s c.loop-name.self c.ensure_zone_loaded.new.self c.as_slice-name-items.result.now
              c.loop-name.name-index c.name-item.result c.in_ok-ensure_zone_loaded.field-0 c.loop-name-test.true
              c.name-item.is c.in_ok-ensure_zone_loaded.ensures.stay before.0.1 found.0,
        ),
        found.1,
      ));
  boundary = c.ensure_zone_loaded.ensures.boundary ∙ c.loop-name.invariant.boundary;
}

pub returns-in_err-ensure_zone_loaded-clause-uses : goal.returns-in_err-ensure_zone_loaded-clause-uses
returns-in_err-ensure_zone_loaded-clause-uses g c = handed_on c.from_residual-in_err-ensure_zone_loaded.ensures.1
    (after c.loop-name.invariant.uses c.in_err-ensure_zone_loaded.ensures.uses) (λ s inventory both is.
    let before = both.0 is in
    unmoved_since g.S.Store c.args.store.now c.loop-name.store c.ensure_zone_loaded.new.store s
    c.loop-name.invariant.uses.goes.follows
    c.in_err-ensure_zone_loaded.field-0.0 (both.1 before.1 before.0.1.session))

pub returns-clause-uses : goal.returns-clause-uses
returns-clause-uses g c = answered c.loop-name.invariant.uses (λ own none. absurd none) (λ s inventory found is.
    let names = c.as_slice-name-items.result.now in
    let had = found is in (
      all_zones s c.loop-name.self names inventory had.0.0
          (subst (AreSought s c.loop-name.self) (take_all c.loop-name.name-index names (omega arith)) had.0.1),
      had.1,
    ))

pub returns-in_err-ensure_zone_loaded-clause-boundary : goal.returns-in_err-ensure_zone_loaded-clause-boundary
returns-in_err-ensure_zone_loaded-clause-boundary g c =
    c.ensure_zone_loaded.ensures.boundary ∙ c.loop-name.invariant.boundary

pub returns-clause-boundary : goal.returns-clause-boundary
returns-clause-boundary g c = c.loop-name.invariant.boundary
