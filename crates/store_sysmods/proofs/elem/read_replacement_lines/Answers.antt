use Rattle.std.proofs.Common.{◌≡◌, [], arith, sym, ◌∙◌}
use Rattle.std.proofs.lemmas.Grind.{common_steps}
use Rattle.std.proofs.lemmas.List.{nil_from_length}
use Rattle.store_schema.specs.Rows.{records}
use Rattle.store_schema.proofs.OneState.{are_records}
use Rattle.store_schema.proofs.Spelled.{text_same}
use Rattle.store_sysmods.proofs.elem.read_replacement_lines.Goals as goal

pub returns-then-is_empty-clause-none : goal.returns-then-is_empty-clause-none
returns-then-is_empty-clause-none c bad text rest forms some same =
    let read = c.in_ok-text.ensures.read in
    let cell : records c.in_ok-text.text.items ≡ records text = let first = read.0 in cc in
    let one : c.in_ok-text.text.items ≡ text = text_same _ text
    (are_records c.args.elem_type c.in_ok-text.text.items read.1) (are_records c.args.elem_type text forms) cell in
    let none : c.in_ok-text.text.items ≡ [] = nil_from_length c.in_ok-text.text.items (grind (arith, common_steps)) in
    some (sym one ∙ none)
