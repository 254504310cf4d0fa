use Rattle.std.proofs.Common.{[], ◌∷◌, ap}
use Rattle.sqlite.specs.declared.types.Value.TheVariants.{Text}
use Rattle.store_rows.proofs.InsideLemmas.{on_ok}
use Rattle.store_schema.specs.Tables.{store_schema, source}
use Rattle.store_sysmods.specs.Sources.{delete_sources}
use Rattle.store_sysmods.proofs.Texts.{takes_sources}
use Rattle.store_sysmods.proofs.Steps.{step_takes}
use Rattle.store_sysmods.proofs.source.remove_rows.Goals as goal

pub returns : goal.returns
returns g c =
    step_takes g.S.Store delete_sources source _ c.args.id _ _ _ (ap (λ x. Text x ∷ []) c.as_bytes.ensures.same)
    c.remove.ensures.continues c.remove.ensures.calls
    (on_ok c.remove.result _ _ (λ ran. ran store_schema 9 source takes_sources) c.remove.ensures.ok)
