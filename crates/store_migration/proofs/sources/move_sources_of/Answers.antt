use Rattle.std.proofs.Common.{fold, [], ◌∷◌}
use Rattle.sqlite.specs.declared.types.Value.TheVariants.{Text}
use Rattle.store_rows.specs.Rows.{HasContents, in_table, in_place}
use Rattle.store_rows.proofs.InsideLemmas.{on_ok, turns_then}
use Rattle.store_schema.specs.Tables.{store_schema, sysmod}
use Rattle.store_migration.specs.Moved.{bare_row, with_source}
use Rattle.store_migration.proofs.sources.move_sources_of.Goals as goal

pub returns-clause-ok : goal.returns-clause-ok
returns-clause-ok g c =
    let h = c.args.head.now in
    on_ok c.clear_sources_column.result _ _
    (turns_then g.S.Store c.args.tx.now.conn.now c.insert_sources.new.tx.conn.now c.clear_sources_column.new.tx.conn.now
    (HasContents store_schema) (λ contents. fold (with_source h.id) contents h.sources)
    (in_table sysmod (in_place (Text h.id ∷ []) (bare_row h))) c.clear_sources_column.ensures.continues.inside
    (rw c.as_slice.ensures.items at c.in_ok-insert_sources.ensures.ok))
    c.clear_sources_column.ensures.ok
