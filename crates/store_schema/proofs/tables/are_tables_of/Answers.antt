use Rattle.std.proofs.Common.{◌≡◌, ◌∙◌, sym, subst}
use Rattle.sqlite.proofs.Callers.{memory_is_clean}
use Rattle.store_schema.specs.Plain.{IsPlain}
use Rattle.store_schema.specs.Earlier.{schema_under}
use Rattle.store_schema.proofs.Plain.{schema_is_plain}
use Rattle.store_schema.proofs.tables.are_tables_of.Goals as goal

pub returns : goal.returns
returns c =
    let made = c.in_ok-create_schema.ensures.made (memory_is_clean c.create_schema.new.conn)
    c.in_ok-conn.ensures.empty.2
    in
    let is : c.schema.result.now ≡ schema_under c.args.schema = c.schema.ensures.value ∙ made.schema_is in (
      λ same. c.same_schema.ensures.same same ∙ is,
      λ ours. c.same_schema.ensures.found (subst IsPlain (sym ours) (schema_is_plain c.args.schema)) (ours ∙ sym is),
    )
