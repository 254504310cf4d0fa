use Rattle.rec80.specs.Cursors.{text_of}
use Rattle.rec80.proofs.Listing.{none_begins, none_runs, none_closes}
use Rattle.rec80.proofs.lists.split_next_member.Goals as goal

pub returns-in_err-start-clause-none : goal.returns-in_err-start-clause-none
returns-in_err-start-clause-none c =
    rw c.from_residual.ensures (none_begins c.args.first (text_of c.args.rest.now) c.in_err-start.ensures.only)

pub returns-in_err-word-clause-none : goal.returns-in_err-word-clause-none
returns-in_err-word-clause-none c =
    rw c.from_residual-in_err-word.ensures (none_runs c.args.first (text_of c.args.rest.now)
    (text_of c.in_ok-start.start) c.in_ok-start.ensures.only c.in_err-word.ensures.none)

pub returns-in_err-list-clause-none : goal.returns-in_err-list-clause-none
returns-in_err-list-clause-none c =
    rw c.from_residual-in_err-list.ensures (none_closes c.args.first (text_of c.args.rest.now) (text_of c.in_ok-start.start)
    c.in_ok-word.word.now (text_of c.in_ok-word.after_name) c.in_ok-start.ensures.only
    c.in_ok-word.ensures.run c.in_err-list.ensures.none)
