use Rattle.std.proofs.Common.{◌∙◌, sym}
use Rattle.std.proofs.lemmas.Bool.{true≢false}
use Rattle.rec80.specs.Cursors.{text_of}
use Rattle.rec80.specs.Views.{word_of}
use Rattle.rec80.proofs.Listing.{has_left, left_only, no_left, end_left, end_only, next_shorter}
use Rattle.rec80.proofs.members.Members.next_member.Goals as goal
use Rattle.rec80.proofs.members.Members.next_member.Goals.{else-not-self-via-then-not-self+else-is_blank}
use Rattle.rec80.proofs.members.Members.next_member.Goals.{else-not-self-via-else-not-self}

pub returns-then-is_blank-clause-end : goal.returns-then-is_blank-clause-end
returns-then-is_blank-clause-end c = end_left c.args.self.now.first (text_of c.args.self.now.rest) c.if-not-self.true
    (c.is_blank.ensures.blank c.if-is_blank.true)

pub returns-then-is_blank-clause-end_only : goal.returns-then-is_blank-clause-end_only
returns-then-is_blank-clause-end_only c = end_only c.args.self.now.first (text_of c.args.self.now.rest)
    c.if-not-self.true (c.is_blank.ensures.blank c.if-is_blank.true)

pub returns-in_default-clause-bad : goal.returns-in_default-clause-bad
returns-in_default-clause-bad c = no_left c.args.self.now.first (text_of c.args.self.now.rest) c.in_default.ensures.none
    (elim c.else-not-self.branch [
      | else-not-self-via-then-not-self+else-is_blank w ↦ λ later blanks.
          w.is_blank.ensures.not_blank w.if-is_blank.false blanks
      | else-not-self-via-else-not-self w ↦ λ later blanks. absurd (true≢false (sym w.if-not-self.false ∙ later))
    ])

pub returns-clause-member : goal.returns-clause-member
returns-clause-member c = λ ms h. has_left c.args.self.now.first (text_of c.args.self.now.rest)
    (word_of c.in-Some.member) (text_of c.in-Some.after) ms c.in-Some.ensures.member h

pub returns-clause-only : goal.returns-clause-only
returns-clause-only c = λ ms h. left_only c.args.self.now.first (text_of c.args.self.now.rest)
    (word_of c.in-Some.member) (text_of c.in-Some.after) ms c.in-Some.ensures.member h

pub returns-clause-shorter : goal.returns-clause-shorter
returns-clause-shorter c = next_shorter c.args.self.now.first (text_of c.args.self.now.rest) (word_of c.in-Some.member)
    (text_of c.in-Some.after) c.in-Some.ensures.member
