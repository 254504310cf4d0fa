use Rattle.std.proofs.Common.{◌≡◌, ◌⊎◌, IfErr, refl, subst}
use Rattle.sqlite.specs.declared.error.Error.TheVariants.{SqliteFailure}
use Rattle.sqlite.specs.declared.error.ErrorCode.TheVariants.{OutOfMemory}
use Rattle.store.specs.Calls.{calls_of, FailsToWrite}
use Rattle.store.specs.Commits.{OnlyCommits}
use Rattle.store.proofs.Committing.{told_failed, only_answered, only_failed, kept_failed}
use Rattle.store.proofs.ViewLemmas.{leaves_either, leaves_changed, faulted_before}
use Rattle.store.proofs.open.Store.commit.Goals as goal

pub returns-in_err-commit_change-clause-crash : goal.returns-in_err-commit_change-clause-crash
returns-in_err-commit_change-clause-crash g c =
    leaves_either g.S.Store c.self.inside.conn c.args.self.now c.commit_change.new.conn c.args.change.now c.self.view_is
    c.commit_change.ensures.crash

pub returns-clause-durable : goal.returns-clause-durable
returns-clause-durable g c =
    let now = c.commit_change.new.conn in
    leaves_changed g.S.Store c.self.inside.conn c.args.self.now now c.args.change.now c.self.view_is
    c.commit_change.ensures.crash (g.met.S.Store.settled now.store) c.in_ok-commit_change.ensures.made

pub returns-clause-crash : goal.returns-clause-crash
returns-clause-crash g c =
    leaves_either g.S.Store c.self.inside.conn c.args.self.now c.commit_change.new.conn c.args.change.now c.self.view_is
    c.commit_change.ensures.crash

pub returns-in_err-commit_change-clause-cause : goal.returns-in_err-commit_change-clause-cause
returns-in_err-commit_change-clause-cause g c clean =
    let s = g.S.Store in
    let change = c.args.change.now in
    let now = c.commit_change.new.conn in
    told_failed c.commit_change.result c.from_residual.result _ (FailsToWrite s change c.args.self.now now)
    c.in_err-commit_change.was c.from_residual.ensures.1
    (subst (λ old. IfErr c.commit_change.result (λ e. (e ≡ SqliteFailure OutOfMemory) ⊎ FailsToWrite s change old now))
    c.self.view_is (c.commit_change.ensures.cause clean))

pub returns-in_err-commit_change-clause-only : goal.returns-in_err-commit_change-clause-only
returns-in_err-commit_change-clause-only g c =
    let s = g.S.Store in
    let calls = calls_of c.args.change.now in
    let now = c.commit_change.new.conn in
    only_failed s calls c.args.self.now now c.commit_change.result _ c.from_residual.result _
    c.in_err-commit_change.was c.from_residual.ensures.1
    (subst (λ old. OnlyCommits s calls old now c.commit_change.result) c.self.view_is c.commit_change.ensures.only)

pub returns-in_err-commit_change-clause-before : goal.returns-in_err-commit_change-clause-before
returns-in_err-commit_change-clause-before g c clean failed =
    faulted_before g.S.Store c.self.inside.conn c.args.self.now c.commit_change.new.conn c.args.change.now
    c.self.view_is
    c.commit_change.ensures.crash (c.if-prove.ensures.settled refl) clean
    (kept_failed c.from_residual.result _ failed ((returns-in_err-commit_change-clause-only g c).kept clean))
    (returns-in_err-commit_change-clause-cause g c clean failed)

pub returns-clause-only : goal.returns-clause-only
returns-clause-only g c =
    let s = g.S.Store in
    let calls = calls_of c.args.change.now in
    let now = c.commit_change.new.conn in
    only_answered s calls c.args.self.now now c.commit_change.result (tt {0}) (tt {0}) c.in_ok-commit_change.was
    (subst (λ old. OnlyCommits s calls old now c.commit_change.result) c.self.view_is c.commit_change.ensures.only)
