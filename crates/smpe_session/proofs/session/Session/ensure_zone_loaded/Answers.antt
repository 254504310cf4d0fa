use Rattle.std.proofs.Common.{◌∙◌, refl, sym, rules}
use Rattle.smpe_session.proofs.Seeking.{some_updated, sought_loaded}
use Rattle.store.proofs.Keeping.{still_kept}
use Rattle.smpe_session.proofs.Using.{nothing, answered, handed_on, load_uses, short}
use Rattle.smpe_session.proofs.session.Session.ensure_zone_loaded.Goals as goal

pub returns-then-is_global-clause-uses : goal.returns-then-is_global-clause-uses
returns-then-is_global-clause-uses g c = answered nothing (λ own none. absurd none)
    (λ s inventory keeps is. (search rules, keeps))

pub returns-in_err-zone-clause-uses : goal.returns-in_err-zone-clause-uses
returns-in_err-zone-clause-uses g c = handed_on c.from_residual.ensures.1 (load_uses c.in_err-zone.ensures.loads)
    (λ s inventory un is. un)

pub returns-in_default-clause-uses : goal.returns-in_default-clause-uses
returns-in_default-clause-uses g c = answered (load_uses c.in_ok-zone.ensures.loads) (λ own none. absurd none)
    (λ s inventory found is. (search rules, found.1))

pub returns-in_default-insert-clause-uses : goal.returns-in_default-insert-clause-uses
returns-in_default-insert-clause-uses g c = short (load_uses c.in_ok-zone.ensures.loads)
    (λ s inventory found is. still_kept g.S.Store c.load_zone.new.self s (λ _. ⊥) found.1)

pub returns-clause-uses : goal.returns-clause-uses
returns-clause-uses g c = answered (load_uses c.in_ok-zone.ensures.loads) (λ own none. absurd none) (λ s inventory found is. (
  sought_loaded s c.args.self.now _ c.args.name c.in-Some.zone is (sym found.0 ∙ c.in-Some.is) refl refl
      c.in-Ok.ensures.updates,
  found.1,
))

pub returns-clause-stay : goal.returns-clause-stay
returns-clause-stay g c = λ q some. some_updated c.args.self.now
    (record c.args.self.now { zones = c.insert.new.self }) c.args.name q c.in-Some.zone c.in-Ok.ensures.updates some
