use Rattle.std.proofs.Common.{map, sym, ap, ◌∙◌, subst}
use Rattle.std.specs.List.{AllByRecursion}
use Rattle.store_rows.specs.Calls.{RunsInside, puts}
use Rattle.store_rows.specs.Inside.{Turns}
use Rattle.store_rows.specs.Rows.{as_bound, HasContents, in_table, with_rows}
use Rattle.store_rows.specs.Texts.{SuitColumns}
use Rattle.store_rows.proofs.InsideLemmas.{on_ok}
use Rattle.store_schema.specs.Tables.{store_schema, chosen}
use Rattle.store_zones.specs.Chosen.{insert_chosen, insert_numbers}
use Rattle.store_zones.proofs.NumberRows.{numbers_kept}
use Rattle.store_zones.proofs.Texts.{adds_chosen, adds_numbers}
use Rattle.store_zones.proofs.installed_vers.insert_numbers.Goals as goal

pub returns-clause-ok : goal.returns-clause-ok
returns-clause-ok g c =
    let are = ap (map as_bound) c.as_slice.ensures.value ∙ c.in_ok-rows.ensures in
    let kept = numbers_kept c.args.zone.now (map (λ e. e.now) c.args.entries.now) in
    on_ok c.insert_rows.result _ _ (λ turned.
    subst (λ rows. Turns g.S.Store c.args.tx.now.conn.now c.insert_rows.new.tx.conn.now (HasContents store_schema)
    (in_table chosen (with_rows rows))) are
    (turned store_schema 12 chosen adds_numbers adds_chosen
    (subst (AllByRecursion (SuitColumns chosen.columns)) (sym are) kept))) c.insert_rows.ensures.ok

pub returns-clause-calls : goal.returns-clause-calls
returns-clause-calls g c =
    subst (λ rows. RunsInside g.S.Store (puts insert_numbers insert_chosen rows) c.args.tx.now.conn.now
    c.insert_rows.new.tx.conn.now c.insert_rows.result)
    (ap (map as_bound) c.as_slice.ensures.value ∙ c.in_ok-rows.ensures) c.insert_rows.ensures.calls
