use Rattle.std.proofs.Common.{◌≡◌, ◌⊎◌, OnOk, IfErr, rules, refl, subst}
use Rattle.std.proofs.lemmas.Result.{IfErr-weaker}
use Rattle.sqlite.specs.declared.error.Error.TheVariants.{SqliteFailure}
use Rattle.sqlite.specs.declared.error.ErrorCode.TheVariants.{OutOfMemory}
use Rattle.sqlite.specs.Held.{state}
use Rattle.sqlite.specs.State.{HasCleanDisk, Survives}
use Rattle.store_rows.proofs.InsideLemmas.{on_ok}
use Rattle.store.specs.Calls.{calls_of, FailsToWrite}
use Rattle.store.specs.Commits.{OnlyCommits}
use Rattle.store.specs.Writes.{CommitsChange, IsChangeOutcome}
use Rattle.store.proofs.Committing.{crashed, committed, handed_on, failed_to_write, failed_to_commit}
use Rattle.store.proofs.Committing.{only_undone, only_committed}
use Rattle.store.proofs.write.commit_change.Goals as goal

pub returns-clause-made : goal.returns-clause-made
returns-clause-made g c clean =
    let s = g.S.Store in
    let begun = c.transaction-tx.ensures.begun in
    let same : c.commit.new.self.0 ≡ c.conn-2-1.given.0 = search rules in
    subst (λ h. HasCleanDisk (state s h) → OnOk c.commit.result (CommitsChange s c.args.conn.now c.args.change.now h))
    same
    (λ late. on_ok c.commit.result _ _
    (λ it. committed s c.args.conn.now c.write_change.new.tx.conn.now c.commit.new.self.0 c.args.change.now
    (c.if-prove.ensures.settled refl) (rw begun at c.write_change.ensures.continues.inside)
    (rw begun at c.in_ok-write_change.ensures.ok)
    c.commit.ensures.survives.clean late it.1)
    (c.commit.ensures.ok late)) clean

pub returns-clause-crash : goal.returns-clause-crash
returns-clause-crash g c =
    let s = g.S.Store in
    let begun = c.transaction-tx.ensures.begun in
    let same : c.commit.new.self.0 ≡ c.conn-2-1.given.0 = search rules in
    subst (λ h. Survives (state s c.args.conn.now) (state s h) (IsChangeOutcome s c.args.conn.now c.args.change.now))
    same
    (crashed s c.args.conn.now c.write_change.new.tx.conn.now c.commit.new.self.0 c.args.change.now
    (c.if-prove.ensures.settled
    refl) (rw begun at c.write_change.ensures.continues.inside) (rw begun at c.in_ok-write_change.ensures.ok)
    c.commit.ensures.survives)

pub returns-in_err-write_change-clause-cause : goal.returns-in_err-write_change-clause-cause
returns-in_err-write_change-clause-cause g c =
    let s = g.S.Store in
    let begun = c.transaction-tx.ensures.begun in
    let same : c.drop-tx.new.self.0 ≡ c.conn-1.given.0 = search rules in
    subst (λ h. HasCleanDisk (state s h) → IfErr c.from_residual.result
    (λ e. (e ≡ SqliteFailure OutOfMemory) ⊎ FailsToWrite s c.args.change.now c.args.conn.now h)) same
    (λ clean. handed_on c.from_residual.result _ _ c.from_residual.ensures.1
    (failed_to_write s c.args.conn.now c.write_change.new.tx.conn.now c.drop-tx.new.self.0 c.args.change.now
    c.write_change.result _
    c.drop-tx.ensures.survives c.in_err-write_change.was clean
    (rw begun at c.write_change.ensures.calls)))

pub returns-clause-cause : goal.returns-clause-cause
returns-clause-cause g c =
    let s = g.S.Store in
    let begun = c.transaction-tx.ensures.begun in
    let same : c.commit.new.self.0 ≡ c.conn-2-1.given.0 = search rules in
    subst (λ h. HasCleanDisk (state s h) → IfErr c.commit.result
    (λ e. (e ≡ SqliteFailure OutOfMemory) ⊎ FailsToWrite s c.args.change.now c.args.conn.now h)) same
    (λ clean. IfErr-weaker c.commit.result _ _
    (λ e. failed_to_commit s c.args.conn.now c.write_change.new.tx.conn.now c.commit.new.self.0 c.args.change.now
    c.write_change.result (tt {0}) e (rw begun at c.write_change.ensures.continues.inside) c.commit.ensures.survives
    c.in_ok-write_change.was clean (rw begun at c.write_change.ensures.calls))
    (c.commit.ensures.err clean))

pub returns-in_err-write_change-clause-only : goal.returns-in_err-write_change-clause-only
returns-in_err-write_change-clause-only g c =
    let s = g.S.Store in
    let begun = c.transaction-tx.ensures.begun in
    let same : c.drop-tx.new.self.0 ≡ c.conn-1.given.0 = search rules in
    subst (λ h. OnlyCommits s (calls_of c.args.change.now) c.args.conn.now h c.from_residual.result) same
    (only_undone s (calls_of c.args.change.now) c.args.conn.now c.drop-tx.new.self.0 c.write_change.new.tx.conn.now (rw
    begun
    at c.write_change.ensures.continues.inside) c.from_residual.result _ c.from_residual.ensures.1
    (λ clean. c.drop-tx.ensures.undone clean) c.drop-tx.ensures.survives)

pub returns-clause-only : goal.returns-clause-only
returns-clause-only g c =
    let s = g.S.Store in
    let begun = c.transaction-tx.ensures.begun in
    let same : c.commit.new.self.0 ≡ c.conn-2-1.given.0 = search rules in
    subst (λ h. OnlyCommits s (calls_of c.args.change.now) c.args.conn.now h c.commit.result) same
    (only_committed s (calls_of c.args.change.now) c.args.conn.now c.commit.new.self.0 c.write_change.new.tx.conn.now
    (rw begun
    at c.write_change.ensures.continues.inside) c.write_change.result (tt {0}) c.commit.result
    c.in_ok-write_change.was (rw begun at c.write_change.ensures.calls) c.commit.ensures.survives
    (λ clean. on_ok c.commit.result _ _ (λ it. it.1) (c.commit.ensures.ok clean))
    (λ clean. IfErr-weaker c.commit.result _ _ (λ e fails. fails) (c.commit.ensures.err clean)))
