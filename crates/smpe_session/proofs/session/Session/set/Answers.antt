use Rattle.std.proofs.Common.{refl, Some}
use Rattle.terms.specs.Types.{Set}
use Rattle.machine.specs.Machine.{Perform}
use Rattle.store.proofs.Keeping.{act_unmoved}
use Rattle.smpe_session.proofs.Seeking.{set_refused, set_ran, set_session}
use Rattle.smpe_session.proofs.Using.{answered, handed_on}
use Rattle.smpe_session.proofs.session.Session.set.Goals as goal

pub returns-in_err-ensure_zone_loaded-clause-uses : goal.returns-in_err-ensure_zone_loaded-clause-uses
returns-in_err-ensure_zone_loaded-clause-uses g c = handed_on c.from_residual.ensures.1
    c.in_err-ensure_zone_loaded.ensures.uses
    (λ s inventory un is date files. act_unmoved g.S.Store c.args.store.now c.ensure_zone_loaded.new.store s
    (Perform date files (Set c.args.name)) c.in_err-ensure_zone_loaded.field-0.0 (un is))

pub returns-then-not-branch-clause-uses : goal.returns-then-not-branch-clause-uses
returns-then-not-branch-clause-uses g c = answered c.in_ok-ensure_zone_loaded.ensures.uses (λ own none. absurd none)
    (λ s inventory found is date files.
    let sought = found is in (
      s,
      set_refused s c.ensure_zone_loaded.new.self c.args.name date files c.in_ok-ensure_zone_loaded.field-0 sought.0
          c.if-not-branch.true,
      sought.0.session,
      sought.1,
    ))

pub returns-clause-uses : goal.returns-clause-uses
returns-clause-uses g c = answered c.in_ok-ensure_zone_loaded.ensures.uses (λ own none. absurd none)
    (λ s inventory found is date files.
    let sought = found is in (
      record s { boundary = Some c.args.name },
      set_ran s c.ensure_zone_loaded.new.self c.args.name date files _ c.in_ok-ensure_zone_loaded.field-0 sought.0
          c.if-not-branch.false (rw c.new.ensures.items refl),
      set_session s c.ensure_zone_loaded.new.self _ c.args.name c.in_ok-ensure_zone_loaded.field-0 sought.0
          c.if-not-branch.false refl
          refl refl,
      sought.1,
    ))

-- ---- the header

pub returns-then-not-branch-clause-header : goal.returns-then-not-branch-clause-header
returns-then-not-branch-clause-header g c = (refl, c.ensure_zone_loaded.ensures.boundary)

pub returns-clause-header : goal.returns-clause-header
returns-clause-header g c = (refl, refl)
