use Rattle.std.proofs.Common.{[], ◌∷◌, refl, ap, subst}
use Rattle.sqlite.specs.declared.types.Value.TheVariants.{Text}
use Rattle.store_rows.proofs.InsideLemmas.{on_ok}
use Rattle.store_schema.specs.Tables.{store_schema, sysmod}
use Rattle.store_sysmods.specs.Sysmods.{sysmod_children}
use Rattle.store_sysmods.proofs.Calls.{Removes}
use Rattle.store_sysmods.proofs.Texts.{takes_sysmod}
use Rattle.store_sysmods.proofs.head.remove_row.Goals as goal

pub returns-clause-calls : goal.returns-clause-calls
returns-clause-calls g c = rw c.as_bytes.ensures.same at c.remove_parent.ensures.calls

pub returns-clause-ok : goal.returns-clause-ok
returns-clause-ok g c =
    on_ok c.remove_parent.result _ _ (λ removed.
    subst (Removes g.S.Store c.args.tx.now.conn.now c.remove_parent.new.tx.conn.now)
    (ap (λ x. Text x ∷ []) c.as_bytes.ensures.same)
    (removed store_schema 1 sysmod sysmod_children takes_sysmod refl)) c.remove_parent.ensures.ok
