use Rattle.std.proofs.Common.{◌≡◌, [], sym, ◌∙◌}
use Rattle.store_schema.specs.Rows.{joined}
use Rattle.store_schema.proofs.OneState.{same_ids}
use Rattle.store_sysmods.proofs.cells.read_requisites.Goals as goal

pub returns-then-is_empty-clause-none : goal.returns-then-is_empty-clause-none
returns-then-is_empty-clause-none c bad list rest others some same =
    let none : c.in_ok-list.list ≡ [] = c.is_empty.ensures.0 c.if-is_empty.true in
    let read = c.in_ok-list.ensures.read in
    let one : joined c.in_ok-list.list ≡ joined list = let first = read.0 in cc in
    some (sym (same_ids c.in_ok-list.list list read.1.listed others.listed one) ∙ none)

pub returns-clause-read : goal.returns-clause-read
returns-clause-read c = (
  c.in_ok-list.ensures.read.0,
  c.in_ok-list.ensures.read.1,
  λ none. absurd (let there = c.is_empty.ensures.1 none in let empty = c.if-is_empty.false in cc),
)
