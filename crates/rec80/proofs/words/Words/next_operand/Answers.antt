use Rattle.std.proofs.Common.{sym, subst}
use Rattle.terms.specs.Statement.{HasSolid}
use Rattle.rec80.specs.Pieces.{piece_of}
use Rattle.rec80.specs.Views.{left_of}
use Rattle.rec80.proofs.words.Words.next_operand.Goals as goal

pub returns-in_err-next_piece-clause-end : goal.returns-in_err-next_piece-clause-end
returns-in_err-next_piece-clause-end c =
    rw c.from_residual.ensures (λ pieces h.
    c.in_err-next_piece.ensures.piece pieces
    (subst (λ w. HasSolid (left_of w) pieces) (sym c.in_default.ensures.err) h))

pub returns-in_default-clause-other : goal.returns-in_default-clause-other
returns-in_default-clause-other c = λ pieces h.
    let same = subst (λ w. HasSolid (left_of w) pieces) (sym c.in_default.ensures.err) h in
    let t = c.in_ok-next_piece.ensures.piece pieces same in
    (c.in_default.ensures.bad pieces h, (piece_of c.in_ok-next_piece.field-0, t.0, t.1, t.2))

pub returns-in_err-found-clause-end : goal.returns-in_err-found-clause-end
returns-in_err-found-clause-end c =
    rw c.from_residual-in_err-found.ensures (λ pieces h. rw c.in_err-found.was at (c.in-Ok.ensures.end pieces h))

pub returns-clause-word : goal.returns-clause-word
returns-clause-word c = λ pieces h. rw c.in_ok-found.was at (c.in-Ok.ensures.word pieces h)
