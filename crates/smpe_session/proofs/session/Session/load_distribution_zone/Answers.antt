use Rattle.std.proofs.Common.{rules}
use Rattle.smpe_session.proofs.Restored.{accepted_none, accepted_some}
use Rattle.smpe_session.proofs.Using.{nothing, answered, handed_on}
use Rattle.smpe_session.proofs.session.Session.load_distribution_zone.Goals as goal

pub returns-in_default-clause-uses : goal.returns-in_default-clause-uses
returns-in_default-clause-uses g c = answered nothing (λ own none. absurd none) (λ s inventory keeps is. (
  accepted_none s inventory c.args.self.now is (search rules),
  keeps,
))

pub returns-in_err-ensure_zone_loaded-clause-uses : goal.returns-in_err-ensure_zone_loaded-clause-uses
returns-in_err-ensure_zone_loaded-clause-uses g c = handed_on c.from_residual.ensures.1 c.in_err-ensure_zone_loaded.ensures.uses
    (λ s inventory un is. un is)

pub returns-clause-uses : goal.returns-clause-uses
returns-clause-uses g c = answered c.in_ok-ensure_zone_loaded.ensures.uses (λ own none. absurd none) (λ s inventory sought is. (
  accepted_some s inventory c.args.self.now c.ensure_zone_loaded.new.self c.in-Some.accepted
      c.in_ok-ensure_zone_loaded.field-0 is
      (search rules) (sought is).0,
  (sought is).1,
))
