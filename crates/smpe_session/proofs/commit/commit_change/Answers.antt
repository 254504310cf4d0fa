use Rattle.std.proofs.Common.{refl}
use Rattle.smpe_session.proofs.Using.{answered, commit_uses, handed}
use Rattle.smpe_session.proofs.commit.commit_change.Goals as goal

pub returns-in_err-commit-clause-uses : goal.returns-in_err-commit-clause-uses
returns-in_err-commit-clause-uses g c =
    let e = c.in_err-commit.ensures in
    handed c.from_residual.ensures.1
    (commit_uses g.S.Store c.args.store.now c.commit.new.self c.args.change.now _ e.clean e.only e.ok e.durable e.err
    e.crash e.which e.before) (λ change own. own) (λ s inventory un t makes is. un t makes is)

pub returns-clause-uses : goal.returns-clause-uses
returns-clause-uses g c =
    let e = c.in_ok-commit.ensures in
    answered (commit_uses g.S.Store c.args.store.now c.commit.new.self c.args.change.now _ e.clean e.only e.ok e.durable
    e.err e.crash e.which e.before) (λ change own. own)
    (λ s inventory done t makes is. (refl, (done t makes is).1))
