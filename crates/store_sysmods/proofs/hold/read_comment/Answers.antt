use Rattle.store_sysmods.proofs.HoldComments.{comment_utf8}
use Rattle.store_sysmods.proofs.hold.read_comment.Goals as goal

pub returns-in-Err-clause-none : goal.returns-in-Err-clause-none
returns-in-Err-clause-none c bad comment rest forms same =
    absurd (c.in-Err.ensures.cases.0 (comment_utf8 c.in-Some.bytes.now
    (c.is_comment.ensures.0 c.if-not-is_comment.false)))
