use Rattle.rec80.specs.Cursors.{text_of}
use Rattle.rec80.proofs.Listing.{blank_end, dark_end}
use Rattle.rec80.proofs.lists.is_blank.Goals as goal

pub returns-clause-blank : goal.returns-clause-blank
returns-clause-blank c = λ yes'. blank_end _ (text_of c.skip_blanks.result) c.skip_blanks.ensures
    (c.is_end.ensures.end yes')

pub returns-clause-not_blank : goal.returns-clause-not_blank
returns-clause-not_blank c = λ no' blanks. c.is_end.ensures.more no'
    (dark_end _ (text_of c.skip_blanks.result) c.skip_blanks.ensures blanks)
