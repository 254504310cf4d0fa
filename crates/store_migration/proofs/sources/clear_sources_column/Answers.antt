use Rattle.std.proofs.Common.{take, subst}
use Rattle.store_rows.specs.Inside.{Turns}
use Rattle.store_rows.specs.Rows.{HasContents, in_table, in_place}
use Rattle.store_rows.proofs.Bound.{kept_as}
use Rattle.store_rows.proofs.InsideLemmas.{on_ok}
use Rattle.store_schema.specs.Tables.{store_schema, sysmod}
use Rattle.store_migration.specs.Moved.{bare_row}
use Rattle.store_migration.proofs.Texts.{replaces_sysmod, kept_bare, bare_bound}
use Rattle.store_migration.proofs.sources.clear_sources_column.Goals as goal

pub returns-clause-ok : goal.returns-clause-ok
returns-clause-ok g c =
    let h = c.args.head.now in
    let row = bare_bound c.as_bytes.result.now c.kind_text.result.now h c.as_bytes.ensures.same c.kind_text.ensures in
    on_ok c.replace.result _ _ (λ ran.
    subst (λ r. Turns g.S.Store c.args.tx.now.conn.now c.replace.new.tx.conn.now (HasContents store_schema)
    (in_table sysmod (in_place (take 1 r) r))) row
    (ran store_schema 1 sysmod 1 replaces_sysmod (kept_as sysmod (bare_row h) _ row (kept_bare h))))
    c.replace.ensures.ok
