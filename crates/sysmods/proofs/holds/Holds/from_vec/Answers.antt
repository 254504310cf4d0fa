use Rattle.std.proofs.Common.{◌∙◌, ap, [], refl, true≢false, sym}
use Rattle.sysmods_values.proofs.KeyOrders.{holds_rise}
use Rattle.sysmods.specs.Lists.{with_holds}
use Rattle.sysmods.proofs.Listed.{with_holds_rising}
use Rattle.sysmods.proofs.holds.Holds.from_vec.Goals as goal

pub returns-then-not-are_rising-clause-none : goal.returns-then-not-are_rising-clause-none
returns-then-not-are_rising-clause-none c = (
  λ some. absurd (true≢false (sym some)),
  λ rises. absurd (true≢false (sym (c.are_rising.ensures.1
      (rw c.as_slice.ensures.value ((holds_rise c.args.holds.items).1 rises)))
      ∙ c.if-not-are_rising.true)),
)

pub returns-clause-some : goal.returns-clause-some
returns-clause-some c =
    c.in_ok-put_all.ensures.ok ∙ ap (λ xs. with_holds xs c.args.holds.items) c.new-made.ensures
    ∙ with_holds_rising [] c.args.holds.items ((holds_rise c.args.holds.items).0 (rw c.as_slice.ensures.value at
    (c.are_rising.ensures.0 c.if-not-are_rising.false)))

pub returns-clause-none : goal.returns-clause-none
returns-clause-none c = (
  λ some. (holds_rise c.args.holds.items).0 (rw c.as_slice.ensures.value at (c.are_rising.ensures.0
      c.if-not-are_rising.false)),
  λ rises. refl,
)
