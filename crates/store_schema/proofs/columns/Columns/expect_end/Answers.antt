use Rattle.std.proofs.Common.{◌≡◌, length, drop, arith, ap, ◌∙◌}
use Rattle.std.proofs.lemmas.List.{length-drop}
use Rattle.store_schema.proofs.columns.Columns.expect_end.Goals as goal

pub returns-then-self-column_count-clause-none : goal.returns-then-self-column_count-clause-none
returns-then-self-column_count-clause-none c bad none =
    let row = c.self.inside.row.now in
    let left : length (drop c.self.inside.at row) ≡ 0 = ap length (c.self.view_is ∙ none) in
    c.if-self-column_count.true
    (omega (arith, left, length-drop c.self.inside.at row, c.self.invariant, c.column_count.ensures))
