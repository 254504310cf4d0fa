use Rattle.std.proofs.Common.{refl, rules}
use Rattle.store_rows.proofs.Queries.{reads_err, reads_more}
use Rattle.machine.specs.Machine.{Begin}
use Rattle.store.proofs.Keeping.{act_unmoved}
use Rattle.smpe_session.proofs.Using.{answered, handed_on, load_uses, no_answer}
use Rattle.smpe_session.proofs.session.Session.begin.Goals as goal

pub returns-in_err-global-clause-uses : goal.returns-in_err-global-clause-uses
returns-in_err-global-clause-uses g c = handed_on c.from_residual.ensures.1 (load_uses c.in_err-global.ensures.loads)
    (λ s inventory un. act_unmoved g.S.Store c.args.store.now c.load_global.new.self s Begin c.in_err-global.field-0.0
    un)

pub returns-clause-uses : goal.returns-clause-uses
returns-clause-uses g c = answered (load_uses c.in_ok-global.ensures.loads) (λ own none. absurd none)
    (λ s inventory found. (
      record {
        global = found.0;
        boundary = refl;
        zones = λ name zone is. search rules;
        current = λ name is. absurd (cc is);
      },
      found.1,
    ))

pub returns-in_err-global-clause-reads : goal.returns-in_err-global-clause-reads
returns-in_err-global-clause-reads g c =
    reads_err g.S.Store _ _ _ c.args.store.now c.load_global.new.self c.load_global.result _ (search rules)
    (λ bad. search rules) (λ failed. search rules)
    c.load_global.ensures.loads.reads

pub returns-clause-reads : goal.returns-clause-reads
returns-clause-reads g c =
    reads_more g.S.Store _ _ _ c.args.store.now c.load_global.new.self c.load_global.result c.in_ok-global.global _
    c.in_ok-global.was (λ failed. search rules) c.load_global.ensures.loads.reads

pub returns-in_err-global-clause-rows : goal.returns-in_err-global-clause-rows
returns-in_err-global-clause-rows g c clean = no_answer c.from_residual.result _ _ c.from_residual.ensures.1

pub returns-clause-rows : goal.returns-clause-rows
returns-clause-rows g c clean = c.in_ok-global.ensures.rows clean
