use Rattle.std.proofs.Common.{◌≡◌, OnOk, arith, rules, sym, subst}
use Rattle.sqlite.specs.Effect.{Database}
use Rattle.sqlite.specs.Held.{state}
use Rattle.sqlite.specs.State.{HasCleanDisk, Survives}
use Rattle.store_rows.proofs.InsideLemmas.{on_ok}
use Rattle.store_migration.specs.TakenOver.{Takes, IsTaken}
use Rattle.store_migration.proofs.Committed.{crash_leaves}
use Rattle.store_migration.proofs.conversion.convert_and_commit.Goals as goal

pub returns-clause-made : goal.returns-clause-made
returns-clause-made g c clean =
    let s = g.S.Store in
    let was = (state s c.args.conn.now).now in
    let takes = Takes c.args.schema c.args.heads.now was in
    let last = state s c.convert_tables.new.tx.conn.now in
    let begun = c.transaction-tx.ensures.begun in
    let same : c.commit.new.self.0 ≡ c.conn-2-1.given.0 = search rules in
    subst (λ h. HasCleanDisk (state s h) → OnOk c.commit.result (takes (state s h).committed)) same
    (λ late.
    let before : HasCleanDisk last = omega (arith, late, c.commit.ensures.survives.clean) in
    on_ok c.commit.result _ _ (λ it. subst (λ (db : Database). takes db) (sym it.1.committed_is) ((rw begun at
    c.in_ok-convert_tables.ensures.ok) before))
    (c.commit.ensures.ok late)) clean

pub returns-clause-crash : goal.returns-clause-crash
returns-clause-crash g c =
    let s = g.S.Store in
    let last = c.convert_tables.new.tx.conn.now in
    let begun = c.transaction-tx.ensures.begun in
    let same : c.commit.new.self.0 ≡ c.conn-2-1.given.0 = search rules in
    subst (λ h. Survives (state s c.args.conn.now) (state s h) (IsTaken c.args.schema c.args.heads.now (state s
    c.args.conn.now).now)) same
    (crash_leaves s c.args.conn.now last c.commit.new.self.0 c.args.schema c.args.heads.now (rw begun at
    c.convert_tables.ensures.continues.inside) (rw begun at c.in_ok-convert_tables.ensures.ok)
    c.commit.ensures.survives)
