use Rattle.std.proofs.Common.{◌∷◌, inl, sym, ap, ◌∙◌}
use Rattle.terms.proofs.Gaps.{opens_comment, takes_stray}
use Rattle.rec80.specs.Cursors.{rest_of}
use Rattle.rec80.proofs.piece.split_piece.Goals as goal

pub returns-then-byte-eq41-clause-stop : goal.returns-then-byte-eq41-clause-stop
returns-then-byte-eq41-clause-stop c = (
  rest_of c.in-Some.next,
  inl (c.in-Some.ensures.text ∙ ap (λ b. b ∷ rest_of c.in-Some.next) c.if-byte-eq41.true),
)

pub returns-then-is_some-clause-stop : goal.returns-then-is_some-clause-stop
returns-then-is_some-clause-stop c =
    opens_comment _ (rest_of c.in-Some.next) c.in-Some.byte c.requires c.in-Some.ensures.text
    (sym c.skip_pair.ensures.found ∙ sym c.is_some.ensures ∙ c.if-is_some.true)

pub returns-clause-piece : goal.returns-clause-piece
returns-clause-piece c =
    takes_stray _ (rest_of c.in-Some.next) c.in-Some.byte c.requires c.in-Some.ensures.text
    (sym c.is_part_of_word.ensures ∙ c.if-is_part_of_word.false) c.if-byte-eq46.false c.if-byte-eq41.false
    c.if-byte-eq40.false
    (sym c.skip_pair.ensures.found ∙ sym c.is_some.ensures ∙ c.if-is_some.false)
