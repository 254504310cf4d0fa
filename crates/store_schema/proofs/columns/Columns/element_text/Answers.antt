use Rattle.std.proofs.Common.{◌≡◌}
use Rattle.store_schema.specs.Rows.{records}
use Rattle.store_schema.proofs.TextForms.{no_text}
use Rattle.store_schema.proofs.columns.Columns.element_text.Goals as goal

pub returns-in-Err-clause-none : goal.returns-in-Err-clause-none
returns-in-Err-clause-none c bad text rest forms is =
    let read = c.in_ok-lines.ensures.read in
    let same : records c.in_ok-lines.lines.items ≡ records text = let first = read.0 in cc in
    no_text c.args.elem_type c.in_ok-lines.lines.items text c.in-Err.field-0
    (c.is_numbered.ensures.0 c.if-not-is_numbered.false) read.1 c.in-Err.ensures.fault forms same
