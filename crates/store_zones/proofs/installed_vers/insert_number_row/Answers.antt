use Rattle.store_rows.proofs.InsideLemmas.{on_ok}
use Rattle.store_schema.specs.Rows.{chosen_row}
use Rattle.store_schema.specs.Tables.{store_schema, chosen}
use Rattle.store_zones.specs.Chosen.{insert_chosen}
use Rattle.store_zones.proofs.Texts.{adds_chosen}
use Rattle.store_zones.proofs.RowForms.{kept_chosen}
use Rattle.store_zones.proofs.Putting.{InsertsRow, inserts_row}
use Rattle.store_zones.proofs.installed_vers.insert_number_row.Given.{Over}
use Rattle.store_zones.proofs.installed_vers.insert_number_row.Goals.{After-insert}
use Rattle.store_zones.proofs.installed_vers.insert_number_row.Goals as goal

inserted : (g : Over) (c : After-insert g) → InsertsRow g.S.Store insert_chosen chosen c.args.tx.now.conn.now
    c.insert.new.tx.conn.now c.insert.result (chosen_row c.args.zone.now c.args.id.now c.args.number)
inserted g c =
    let zone = c.args.zone.now in
    let id = c.args.id.now in
    let n = c.args.number in
    inserts_row g.S.Store insert_chosen chosen c.args.tx.now.conn.now c.insert.new.tx.conn.now c.insert.result
    (chosen_row zone id n) _ c.number_values-row.ensures (kept_chosen zone id n) c.insert.ensures.calls
    (on_ok c.insert.result _ _ (λ ran. ran store_schema 12 chosen adds_chosen) c.insert.ensures.ok)

pub returns-clause-ok : goal.returns-clause-ok
returns-clause-ok g c = (inserted g (goal.at.returns-clause-ok g c).After-insert).1

pub returns-clause-calls : goal.returns-clause-calls
returns-clause-calls g c = (inserted g (goal.at.returns-clause-calls g c).After-insert).0
