use Rattle.store_rows.proofs.InsideLemmas.{on_ok}
use Rattle.store_schema.specs.Rows.{chosen_row}
use Rattle.store_schema.specs.Tables.{store_schema, chosen}
use Rattle.store_zones.specs.Chosen.{upsert_chosen}
use Rattle.store_zones.proofs.Texts.{puts_chosen}
use Rattle.store_zones.proofs.RowForms.{kept_chosen}
use Rattle.store_zones.proofs.Putting.{PutsRow, puts_row}
use Rattle.store_zones.proofs.installed_vers.upsert_number_row.Given.{Over}
use Rattle.store_zones.proofs.installed_vers.upsert_number_row.Goals.{After-upsert}
use Rattle.store_zones.proofs.installed_vers.upsert_number_row.Goals as goal

put : (g : Over) (c : After-upsert g) → PutsRow g.S.Store upsert_chosen chosen c.args.tx.now.conn.now
    c.upsert.new.tx.conn.now c.upsert.result 2 (chosen_row c.args.zone.now c.args.id.now c.args.number)
put g c =
    let zone = c.args.zone.now in
    let id = c.args.id.now in
    let n = c.args.number in
    puts_row g.S.Store upsert_chosen chosen c.args.tx.now.conn.now c.upsert.new.tx.conn.now c.upsert.result 2
    (chosen_row zone id n) _ c.number_values-row.ensures (kept_chosen zone id n) c.upsert.ensures.calls
    (on_ok c.upsert.result _ _ (λ ran. ran store_schema 12 chosen 2 puts_chosen) c.upsert.ensures.ok)

pub returns-clause-ok : goal.returns-clause-ok
returns-clause-ok g c = (put g (goal.at.returns-clause-ok g c).After-upsert).1

pub returns-clause-calls : goal.returns-clause-calls
returns-clause-calls g c = (put g (goal.at.returns-clause-calls g c).After-upsert).0
