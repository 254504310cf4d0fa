use Rattle.std.proofs.Common.{refl}
use Rattle.rec80.specs.Cursors.{text_of}
use Rattle.rec80.proofs.Listing.{no_inner, bad_inner}
use Rattle.rec80.proofs.lists.member_list.Goals as goal

pub returns-in_default-clause-list : goal.returns-in_default-clause-list
returns-in_default-clause-list c = (
  refl,
  λ b. no_inner _ (text_of c.skip_blanks-after_blanks.result)
      c.skip_blanks-after_blanks.ensures c.in_default.ensures.none b,
)

pub returns-in_err-after-clause-none : goal.returns-in_err-after-clause-none
returns-in_err-after-clause-none c =
    rw c.from_residual.ensures (bad_inner _ (text_of c.skip_blanks-after_blanks.result) (text_of c.in-Some.inside) (text_of c.split_at_paren.result.0)
    (text_of c.split_at_paren.result.1) c.skip_blanks-after_blanks.ensures c.in-Some.ensures.found c.split_at_paren.ensures.cut
    c.split_at_paren.ensures.each c.split_at_paren.ensures.stops c.in_err-after.ensures.none)
