use Rattle.store_rows.proofs.InsideLemmas.{on_ok}
use Rattle.store_schema.specs.Stands.{rows_of}
use Rattle.store_zones.proofs.ZoneLemmas.{element_put}
use Rattle.store_zones.proofs.element.upsert_element.Goals as goal

pub returns-clause-stands : goal.returns-clause-stands
returns-clause-stands g c =
    on_ok c.upsert_element_row.result _ _ (λ turned old same i j was is change put clean held.
    element_put i j c.args.zone was is change old c.args.existed c.args.element.now _ same put
    (turned clean (rows_of i) held)) c.upsert_element_row.ensures.ok
