use Rattle.std.proofs.Common.{map}
use Rattle.store_rows.specs.Texts.{SuitColumns}
use Rattle.store_rows.proofs.InsideLemmas.{on_ok}
use Rattle.store_schema.specs.Rows.{zelem_row}
use Rattle.store_schema.specs.Stands.{rows_of}
use Rattle.store_schema.specs.Tables.{store_schema, zelem}
use Rattle.store_zones.proofs.RowForms.{kept_element}
use Rattle.store_zones.proofs.Runs.{rows_have}
use Rattle.store_zones.proofs.Texts.{adds_element, adds_elements}
use Rattle.store_zones.proofs.ZoneLemmas.{elements_more}
use Rattle.store_zones.proofs.element.insert_elements.Goals as goal

pub returns-clause-ok : goal.returns-clause-ok
returns-clause-ok g c =
    let zone = c.args.zone in
    let es = map (λ e. e.now) c.args.elements.now in
    on_ok c.insert_items.result _ _ (λ turned. turned store_schema 8 zelem adds_elements adds_element
    (rows_have (SuitColumns zelem.columns) (zelem_row zone) (kept_element zone) es)) c.insert_items.ensures.ok

pub returns-clause-stands : goal.returns-clause-stands
returns-clause-stands g c =
    on_ok c.insert_items.result _ _ (λ turned i j was is change more clean held.
    elements_more i j c.args.zone was is change (map (λ e. e.now) c.args.elements.now) _ more
    (turned clean (rows_of i) held)) (returns-clause-ok g c)
