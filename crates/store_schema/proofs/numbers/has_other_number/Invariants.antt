use Rattle.std.proofs.Common.{ℕ, ◌<◌, slice_index_or}
use Rattle.sqlite.specs.Order.{Row}
use Rattle.store_schema.specs.Known.{GivesOther}
use Rattle.store_schema.proofs.numbers.has_other_number.Given as goal

abbrev pub invariant-loop-row : goal.invariant-loop-row
invariant-loop-row l = (k : ℕ) → k < l.row-index → (d : Row) → ¬ GivesOther l.numbers (slice_index_or l.rows k d)
