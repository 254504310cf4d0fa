use Rattle.std.proofs.Common.{◌≡◌, rules, subst}
use Rattle.sqlite.specs.Held.{state}
use Rattle.sqlite.specs.State.{Survives}
use Rattle.store_schema.specs.Create.{IsBlank}
use Rattle.store_schema.specs.Inventory.{empty_inventory}
use Rattle.store_schema.specs.Stands.{StandsFor}
use Rattle.store_rows.specs.Inside.{IsMade}
use Rattle.store_rows.proofs.InsideLemmas.{making}
use Rattle.store_schema.proofs.tables.create_store.Goals as goal

pub returns-clause-crash : goal.returns-clause-crash
returns-clause-crash g c =
    let s = g.S.Store in
    let empty = StandsFor empty_inventory in
    let old = c.args.conn.now in
    let last = c.create_all_tables.new.tx.conn.now in
    let last_now = c.commit.new.self.0 in
    let begun = c.transaction-tx.ensures.begun in
    let inside = rw begun at c.create_all_tables.ensures.continues.inside in
    let made = rw begun at c.in_ok-create_all_tables.ensures.ok in
    let same : last_now ≡ c.conn-2-1.given.0 = search rules in
    subst (λ h. Survives (state s old) (state s h) (IsMade s old IsBlank empty)) same
    (making s old last last_now IsBlank empty inside made c.commit.ensures.survives)
