-- The parts of a summary apart from where they are in memory.
use Rattle.std.specs.Prelude.{Bool, option_map}
use Rattle.std.specs.Ordering.{nat_cmp, is_lt, ordering_then}
use Rattle.std.specs.Cmp.Lexicographic.{slice_cmp}
use Rattle.std.specs.String.{string_bytes}
use Rattle.smpe_summary.specs.declared.values.CauseReason.{CauseReason}
use Rattle.smpe_summary.specs.declared.values.CauseReason.TheVariants as stored
use Rattle.smpe_summary.specs.declared.values.Cause.{Cause as StoredCause}
use Rattle.smpe_summary.specs.declared.values.TakenOff.{TakenOff as StoredTakenOff}
use Rattle.smpe_summary.specs.Causes.{Why, HoldWhy, NeedWhy, TestWhy, UnknownWhy, Cause}
use Rattle.smpe_summary.specs.Todo.{TakenOff}

abbrev pub reason_view : CauseReason → Why
reason_view (stored.Hold kind reason comment) = HoldWhy kind reason (option_map string_bytes comment)
reason_view (stored.Need kind id) = NeedWhy kind id
reason_view (stored.Test test) = TestWhy test
reason_view stored.Unknown = UnknownWhy

abbrev pub cause_view : StoredCause → Cause
cause_view c = record { id = c.id; fails = c.fails; why = reason_view c.why }

-- which of two causes is told first: the one with more failures, or with as many and the smaller id
abbrev pub is_worse : StoredCause → StoredCause → Bool
is_worse a b = is_lt (ordering_then (nat_cmp b.fails a.fails) (slice_cmp nat_cmp a.id b.id))

abbrev pub taken_view : StoredTakenOff → TakenOff
taken_view t = record { by = t.by; ids = t.ids.items; usermods = t.usermods.items }
