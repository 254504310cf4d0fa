use Rattle.std.proofs.Common.{ℕ, IsTrue, slice_index_or, sym, subst, arith}
use Rattle.std.proofs.lemmas.List.{get_or_read}
use borrow.Author.Count.{below_more}
use Rattle.sqlite.specs.Order.{Row}
use Rattle.store_schema.specs.Known.{GivesOther}
use Rattle.store_schema.proofs.numbers.has_other_number.Goals as goal

pub loop-row-preserved : goal.loop-row-preserved
loop-row-preserved c =
    let rows = c.args.rows.now in
    let i = c.loop-row.row-index in
    below_more (λ (k : ℕ). (d : Row) → ¬ GivesOther c.args.numbers.now (slice_index_or rows k d)) i c.loop-row.invariant
    (λ d other. absurd (let is : IsTrue c.gives_other_number.result =
    c.gives_other_number.ensures.1 (subst (GivesOther c.args.numbers.now) (sym
    (get_or_read rows i c.row-item.result (omega arith) c.row-item.is d)) other) in cc))

pub returns : goal.returns
returns c = (
  λ no. absurd cc,
  λ some. absurd (c.loop-row.invariant some.0 (omega (arith, some.2)) some.1
      (subst (GivesOther c.args.numbers.now) (sym some.3) some.4)),
)
