use Rattle.std.proofs.Common.{◌≡◌, [], ◌++◌, map, ap, ap₂, ◌∙◌}
use Rattle.terms.specs.Types.{Sysmod}
use Rattle.store_rows.specs.Calls.{puts}
use Rattle.store_rows.specs.Rows.{as_bound}
use Rattle.store_rows.proofs.InsideLemmas.{on_ok}
use Rattle.store_schema.specs.Rows.{source_row, sources_of}
use Rattle.store_schema.specs.Stands.{rows_of}
use Rattle.store_schema.specs.Tables.{store_schema, source}
use Rattle.store_sysmods.specs.Behind.{rows_behind, of_each}
use Rattle.store_sysmods.specs.Calls.{replace_sources_calls}
use Rattle.store_sysmods.specs.Sources.{delete_sources, insert_source, insert_sources}
use Rattle.store_sysmods.specs.Steps.{RunsCalls}
use Rattle.store_sysmods.specs.Sysmods.{with_source_rows}
use Rattle.store_sysmods.proofs.Behind.{each_behind}
use Rattle.store_sysmods.proofs.Kept.{kept_sources_of}
use Rattle.store_sysmods.proofs.Steps.{step_takes_of, step_ok, step_then, step_stops, puts_rows}
use Rattle.store_sysmods.proofs.SysmodLemmas.{sources_replaced}
use Rattle.store_sysmods.proofs.Texts.{puts_source, puts_sources}
use Rattle.store_sysmods.proofs.sysmod_rows.replace_sources.Given.{Over}
use Rattle.store_sysmods.proofs.sysmod_rows.replace_sources.Goals.{After-insert_rows}
use Rattle.store_sysmods.proofs.sysmod_rows.replace_sources.Goals as goal

bound_rows : (g : Over) (c : After-insert_rows g)
    → map as_bound c.as_slice-2.result.now ≡ sources_of c.args.sysmod.now
bound_rows g c =
    let x = c.sysmod.inside.id in
    let names = c.as_slice.result.now in
    let view = c.sysmod.view_is in
    ap (map as_bound) c.as_slice-2.ensures.value ∙ c.in_ok-append_all_rows.ensures
    ∙ ap (λ items. map as_bound items ++ rows_behind (of_each (source_row x)) [] names) c.new-rows.ensures.items
    ∙ each_behind (source_row x) [] names
    ∙ ap₂ (λ y sources. map (source_row y) sources) (ap (λ (t : Sysmod). t.id) view)
    (c.as_slice.ensures.items ∙ ap (λ (t : Sysmod). t.sources) view)

replaced : (g : Over) (c : After-insert_rows g)
    → RunsCalls g.S.Store (replace_sources_calls c.args.sysmod.now) (with_source_rows c.args.sysmod.now)
    c.args.tx.now c.insert_rows.new.tx c.insert_rows.result
replaced g c =
    step_then g.S.Store (step_ok g.S.Store c.in_ok-remove_rows.was
    (step_takes_of g.S.Store delete_sources source (ap (λ (t : Sysmod). t.id) c.sysmod.view_is) c.remove_rows.ensures))
    (puts_rows g.S.Store insert_sources insert_source source (bound_rows g c) (kept_sources_of c.args.sysmod.now)
    c.insert_rows.ensures.continues c.insert_rows.ensures.calls (on_ok c.insert_rows.result _ _
    (λ ran. ran store_schema 9 source puts_sources puts_source) c.insert_rows.ensures.ok))

pub returns-clause-ok : goal.returns-clause-ok
returns-clause-ok g c = (replaced g (goal.at.returns-clause-ok g c).After-insert_rows).ok

pub returns-clause-stands : goal.returns-clause-stands
returns-clause-stands g c =
    on_ok c.insert_rows.result _ _ (λ turned i kinds clean held.
    sources_replaced c.args.sysmod.now i _ (turned clean (rows_of i) held)) (returns-clause-ok g c)

pub returns-clause-calls : goal.returns-clause-calls
returns-clause-calls g c = (replaced g (goal.at.returns-clause-calls g c).After-insert_rows).runs

pub returns-in_err-remove_rows-clause-calls : goal.returns-in_err-remove_rows-clause-calls
returns-in_err-remove_rows-clause-calls g c =
    (step_stops g.S.Store (puts insert_sources insert_source (sources_of c.args.sysmod.now))
    c.from_residual-in_err-remove_rows.result c.in_err-remove_rows.was c.from_residual-in_err-remove_rows.ensures.1
    (step_takes_of g.S.Store delete_sources source (ap (λ (t : Sysmod). t.id) c.sysmod.view_is)
    c.remove_rows.ensures)).runs
