use Rattle.rec80.specs.Cursors.{text_of}
use Rattle.rec80.proofs.Listing.{only_first, start_comma, only_comma, start_blank, only_blank, only_none}
use Rattle.rec80.proofs.lists.member_start.Goals as goal

pub returns-then-first-clause-only : goal.returns-then-first-clause-only
returns-then-first-clause-only c = only_first c.args.first _ (text_of c.skip_blanks-after_blanks.result) c.if-first.true
    c.skip_blanks-after_blanks.ensures

pub returns-in-Some-clause-start : goal.returns-in-Some-clause-start
returns-in-Some-clause-start c = start_comma c.args.first _ (text_of c.skip_blanks-after_blanks.result)
    (text_of c.in-Some.next) (text_of c.skip_blanks.result) c.if-first.false c.skip_blanks-after_blanks.ensures
    c.in-Some.ensures.found c.skip_blanks.ensures

pub returns-in-Some-clause-only : goal.returns-in-Some-clause-only
returns-in-Some-clause-only c = only_comma c.args.first _ (text_of c.skip_blanks-after_blanks.result) (text_of c.in-Some.next)
    (text_of c.skip_blanks.result) c.if-first.false c.skip_blanks-after_blanks.ensures c.in-Some.ensures.found
    c.skip_blanks.ensures

pub returns-in_err-skip_byte-clause-only : goal.returns-in_err-skip_byte-clause-only
returns-in_err-skip_byte-clause-only c =
    rw c.from_residual.ensures (only_none c.args.first _ (text_of c.skip_blanks-after_blanks.result)
    c.if-first.false c.skip_blanks-after_blanks.ensures c.in_default.ensures.none c.in_err-skip_byte.ensures.none)

pub returns-clause-start : goal.returns-clause-start
returns-clause-start c = start_blank c.args.first _ (text_of c.skip_blanks-after_blanks.result)
    (text_of c.in_ok-skip_byte.field-0) c.if-first.false c.skip_blanks-after_blanks.ensures
    c.in_ok-skip_byte.ensures.found

pub returns-clause-only : goal.returns-clause-only
returns-clause-only c = only_blank c.args.first _ (text_of c.skip_blanks-after_blanks.result) c.if-first.false
    c.skip_blanks-after_blanks.ensures c.in_default.ensures.none
