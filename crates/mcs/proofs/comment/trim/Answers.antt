use Rattle.std.proofs.Common.{◌≡◌, length, rules}
use Rattle.std.proofs.lemmas.List.{nil_from_length}
use Rattle.mcs.proofs.Trimming.{no_cut}
use Rattle.mcs.proofs.comment.trim.Goals as goal

pub returns-then-is_empty-clause-none : goal.returns-then-is_empty-clause-none
returns-then-is_empty-clause-none c = λ cut t.
    let empty : length c.drop_trailing_blanks-cut.result.now ≡ 0 = search rules in
    no_cut c.args.text.now c.skip_leading_blanks.result.now c.drop_trailing_blanks-cut.result.now cut
    c.skip_leading_blanks.ensures.skips c.drop_trailing_blanks-cut.ensures.drops
    (nil_from_length c.drop_trailing_blanks-cut.result.now empty) t
