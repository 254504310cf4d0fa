use Rattle.std.proofs.Common.{arith, List, refl, subst}
use Rattle.terms.specs.Statement.{TakesPiece, TheWord, TheList, HasSolid}
use Rattle.terms.specs.Statement as grammar
use Rattle.terms.specs.Words.{BeginsNoWords}
use Rattle.rec80.specs.Cursors.{rest_of, text_of}
use Rattle.rec80.specs.Pieces.{piece_of}
use Rattle.rec80.specs.Views.{left_of}
use Rattle.rec80.proofs.Walking.{gaps_shorter, behind_shorter}
use Rattle.rec80.proofs.Reading.{reads_word, reads_plain, reads_no_word, reads_end}
use Rattle.rec80.proofs.words.Words.next_word.Goals as goal

pub returns-in_default-clause-end : goal.returns-in_default-clause-end
returns-in_default-clause-end c = λ pieces h.
    reads_end _ (rest_of c.skip_gaps-at.result) c.in_default.field-0 pieces c.skip_gaps-at.ensures.gaps
    c.in_default.ensures.stop h

pub returns-in_default-piece : goal.returns-in_default-piece
returns-in_default-piece c =
    let bad : (pieces : List grammar.Piece) → HasSolid (left_of c.args.self.now) pieces → BeginsNoWords pieces =
    λ pieces h. reads_no_word _ (rest_of c.skip_gaps-at.result) (rest_of c.in-Ok.next) c.in-Ok.piece pieces
    c.skip_gaps-at.ensures.gaps c.in-Ok.ensures.piece c.in_default-piece.not-Word h in
    record { word = λ pieces h. tt; end = λ pieces h. tt; bad = bad; err = refl; inline = refl; shorter = tt }

pub returns-in-Some-clause-word : goal.returns-in-Some-clause-word
returns-in-Some-clause-word c = λ pieces h.
    reads_word _ (rest_of c.skip_gaps-at.result) (rest_of c.in-Ok.next) (rest_of c.skip_gaps-after_gaps.result)
    (rest_of c.in-Some.after) c.in-Word.word.now (text_of c.in-Some.list) pieces c.skip_gaps-at.ensures.gaps
    (subst (λ p. TakesPiece (rest_of c.skip_gaps-at.result) (piece_of p) (rest_of c.in-Ok.next)) c.in-Word.is
    c.in-Ok.ensures.piece) c.skip_gaps-after_gaps.ensures.gaps c.in-Some.ensures.list h

pub returns-clause-word : goal.returns-clause-word
returns-clause-word c = λ pieces h.
    reads_plain _ (rest_of c.skip_gaps-at.result) (rest_of c.in-Ok.next) (rest_of c.skip_gaps-after_gaps.result)
    c.in-Word.word.now pieces c.skip_gaps-at.ensures.gaps
    (subst (λ p. TakesPiece (rest_of c.skip_gaps-at.result) (piece_of p) (rest_of c.in-Ok.next)) c.in-Word.is
    c.in-Ok.ensures.piece) c.skip_gaps-after_gaps.ensures.gaps c.in_default-list_at.ensures.none h

pub returns-in-Some-clause-shorter : goal.returns-in-Some-clause-shorter
returns-in-Some-clause-shorter c =
    let a = behind_shorter _ (rest_of c.skip_gaps-at.result) (rest_of c.in-Ok.next) (piece_of c.in-Ok.piece)
    c.skip_gaps-at.ensures.gaps c.in-Ok.ensures.piece in
    let b = behind_shorter (rest_of c.in-Ok.next) (rest_of c.skip_gaps-after_gaps.result) (rest_of c.in-Some.after)
    (TheList (text_of c.in-Some.list)) c.skip_gaps-after_gaps.ensures.gaps c.in-Some.ensures.list in
    omega (arith, a, b)

pub returns-clause-shorter : goal.returns-clause-shorter
returns-clause-shorter c =
    let a = behind_shorter _ (rest_of c.skip_gaps-at.result) (rest_of c.in-Ok.next) (piece_of c.in-Ok.piece)
    c.skip_gaps-at.ensures.gaps c.in-Ok.ensures.piece in
    omega (
      arith,
      a,
      gaps_shorter (rest_of c.in-Ok.next) (rest_of c.skip_gaps-after_gaps.result)
          c.skip_gaps-after_gaps.ensures.gaps,
    )
