use Rattle.std.proofs.Common.{◌≡◌, sym, subst₂}
use Rattle.terms.specs.Texts.{IsUpdate}
use Rattle.store_schema.specs.Rows.{records}
use Rattle.store_schema.proofs.Spelled.{text_same}
use Rattle.store_sysmods.proofs.elem.read_update.Goals as goal

pub returns-clause-none : goal.returns-clause-none
returns-clause-none c bad text rest updated are update same =
    let read = c.in_ok-lines.ensures.read in
    let cell : records text ≡ records c.in_ok-lines.lines.items = let first = read.0 in cc in
    let one : text ≡ c.in_ok-lines.lines.items = text_same text _ are read.1 cell in
    c.parse_update.ensures.none bad (subst₂ IsUpdate (sym c.as_bytes.ensures.same) one update)
