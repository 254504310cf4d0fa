use Rattle.std.proofs.Common.{[], ◌∷◌, ap}
use Rattle.sqlite.specs.declared.types.Value.TheVariants.{Text}
use Rattle.store_rows.proofs.InsideLemmas.{on_ok}
use Rattle.store_schema.specs.Tables.{store_schema, moreif}
use Rattle.store_sysmods.specs.MoreIfs.{delete_moreifs}
use Rattle.store_sysmods.proofs.Texts.{takes_moreifs}
use Rattle.store_sysmods.proofs.Steps.{step_takes}
use Rattle.store_sysmods.proofs.moreif.remove_rows.Goals as goal

pub returns : goal.returns
returns g c =
    step_takes g.S.Store delete_moreifs moreif _ c.args.id _ _ _ (ap (λ x. Text x ∷ []) c.as_bytes.ensures.same)
    c.remove.ensures.continues c.remove.ensures.calls
    (on_ok c.remove.result _ _ (λ ran. ran store_schema 11 moreif takes_moreifs) c.remove.ensures.ok)
