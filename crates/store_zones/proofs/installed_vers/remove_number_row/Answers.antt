use Rattle.std.proofs.Common.{[], ◌∷◌, ap₂, subst}
use Rattle.sqlite.specs.declared.types.Value.TheVariants.{Text}
use Rattle.store_rows.specs.Calls.{RunsInside}
use Rattle.store_rows.proofs.InsideLemmas.{on_ok}
use Rattle.store_rows.proofs.Bound.{as_removed}
use Rattle.store_schema.specs.Tables.{store_schema, chosen}
use Rattle.store_zones.specs.Chosen.{delete_chosen}
use Rattle.store_zones.specs.Entries.{entry_key}
use Rattle.store_zones.proofs.Texts.{takes_chosen}
use Rattle.store_zones.proofs.installed_vers.remove_number_row.Goals as goal

pub returns-clause-ok : goal.returns-clause-ok
returns-clause-ok g c =
    on_ok c.remove.result _ _ (λ removed.
    as_removed g.S.Store c.args.tx.now.conn.now c.remove.new.tx.conn.now store_schema chosen
    (entry_key c.args.zone.now c.args.id.now) _
    (ap₂ (λ zone id. Text zone ∷ Text id ∷ []) c.as_bytes.ensures.same c.as_bytes-2.ensures.same)
    (removed store_schema 12 chosen takes_chosen)) c.remove.ensures.ok

pub returns-clause-calls : goal.returns-clause-calls
returns-clause-calls g c =
    subst (λ key. RunsInside g.S.Store ((delete_chosen, key) ∷ []) c.args.tx.now.conn.now c.remove.new.tx.conn.now
    c.remove.result)
    (ap₂ (λ zone id. Text zone ∷ Text id ∷ []) c.as_bytes.ensures.same c.as_bytes-2.ensures.same)
    c.remove.ensures.calls
