use Rattle.store_rows.proofs.InsideLemmas.{on_ok}
use Rattle.store_schema.specs.Tables.{store_schema, meta}
use Rattle.store_migration.proofs.Texts.{replaces_number, kept_number}
use Rattle.store_migration.proofs.number.write_number.Goals as goal

pub returns-clause-ok : goal.returns-clause-ok
returns-clause-ok g c =
    on_ok c.replace.result _ _ (λ ran. ran store_schema 0 meta 1 replaces_number kept_number) c.replace.ensures.ok
