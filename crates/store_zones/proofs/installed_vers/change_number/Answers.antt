use Rattle.std.proofs.Common.{true, false, refl, rules}
use Rattle.std.proofs.lemmas.Bool.{eq-eqb}
use Rattle.store_rows.proofs.InsideLemmas.{on_ok}
use Rattle.store_schema.specs.Rows.{chosen_row}
use Rattle.store_zones.specs.Entries.{entry_key}
use Rattle.store_zones.proofs.ByNumber.{turns_number}
use Rattle.store_zones.proofs.Putting.{number_rows_with}
use Rattle.store_zones.proofs.installed_vers.change_number.Goals as goal

pub returns-then-new-eq1-clause-ok : goal.returns-then-new-eq1-clause-ok
returns-then-new-eq1-clause-ok g c =
    turns_number c.args.zone.now c.args.id.now c.args.old c.args.new g.S.Store c.args.tx.now.conn.now
    c.remove_number_row.new.tx.conn.now c.remove_number_row.result false true _
    (search rules) (eq-eqb c.args.new 1 c.if-new-eq1.true) refl c.remove_number_row.ensures.ok

pub returns-then-old-eq1-clause-ok : goal.returns-then-old-eq1-clause-ok
returns-then-old-eq1-clause-ok g c =
    turns_number c.args.zone.now c.args.id.now c.args.old c.args.new g.S.Store c.args.tx.now.conn.now
    c.insert_number_row.new.tx.conn.now c.insert_number_row.result false false true
    (search rules) (search rules) (eq-eqb c.args.old 1 c.if-old-eq1.true) c.insert_number_row.ensures.ok

pub returns-clause-ok : goal.returns-clause-ok
returns-clause-ok g c =
    let zone = c.args.zone.now in
    let id = c.args.id.now in
    turns_number zone id c.args.old c.args.new g.S.Store c.args.tx.now.conn.now c.upsert_number_row.new.tx.conn.now
    c.upsert_number_row.result false false false (search rules)
    (search rules) (search rules)
    (on_ok c.upsert_number_row.result _ _ (λ put clean contents was.
    number_rows_with (entry_key zone id) (chosen_row zone id c.args.new) contents _ (put clean contents was))
    c.upsert_number_row.ensures.ok)
