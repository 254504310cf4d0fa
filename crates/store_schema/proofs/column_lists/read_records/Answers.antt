use Rattle.std.proofs.Common.{ap, length, ◌%◌, arith, ◌∙◌}
use Rattle.store_schema.proofs.PartLemmas.{no_rest, are_records}
use Rattle.store_schema.proofs.column_lists.read_records.Goals as goal

pub returns-then-bytes-ne0-clause-none : goal.returns-then-bytes-ne0-clause-none
returns-then-bytes-ne0-clause-none c bad lines are same = c.if-bytes-ne0.true
    (ap (λ l. length l % 80) same ∙ no_rest lines are)

pub returns-clause-some : goal.returns-clause-some
returns-clause-some c = are_records c.args.bytes.now c.in_ok-lines_of.field-0.items c.in_ok-lines_of.ensures
    (λ i. let b = c.type_inv.bytes i in omega arith)
