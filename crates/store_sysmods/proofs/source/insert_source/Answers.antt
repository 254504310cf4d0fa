use Rattle.store_rows.proofs.InsideLemmas.{on_ok}
use Rattle.store_schema.specs.Tables.{store_schema, source}
use Rattle.store_sysmods.specs.Sources.{insert_source}
use Rattle.store_sysmods.proofs.Texts.{puts_source}
use Rattle.store_sysmods.proofs.RowForms.{kept_source, source_bound}
use Rattle.store_sysmods.proofs.Steps.{step_row}
use Rattle.store_sysmods.proofs.source.insert_source.Goals as goal

pub returns : goal.returns
returns g c =
    let x = c.args.id.now in
    let name = c.args.source.now in
    let row = source_bound c.as_bytes.result.now c.as_bytes-2.result.now x name c.as_bytes.ensures.same
    c.as_bytes-2.ensures.same in
    step_row g.S.Store insert_source source row (kept_source x name) c.insert.ensures.continues c.insert.ensures.calls
    (on_ok c.insert.result _ _ (λ ran. ran store_schema 9 source puts_source) c.insert.ensures.ok)
