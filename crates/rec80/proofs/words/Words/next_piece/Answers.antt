use Rattle.rec80.specs.Cursors.{rest_of}
use Rattle.rec80.specs.Pieces.{piece_of}
use Rattle.rec80.proofs.Walking.{behind_shorter}
use Rattle.rec80.proofs.Reading.{reads_piece, reads_end}
use Rattle.rec80.proofs.words.Words.next_piece.Goals as goal

pub returns-in_default-clause-piece : goal.returns-in_default-clause-piece
returns-in_default-clause-piece c = λ pieces h.
    reads_end _ (rest_of c.skip_gaps-at.result) c.in_default.field-0 pieces c.skip_gaps-at.ensures.gaps
    c.in_default.ensures.stop h

pub returns-clause-piece : goal.returns-clause-piece
returns-clause-piece c = λ pieces h.
    reads_piece _ (rest_of c.skip_gaps-at.result) (rest_of c.in-Ok.next) c.in-Ok.piece pieces
    c.skip_gaps-at.ensures.gaps c.in-Ok.ensures.piece h

pub returns-clause-shorter : goal.returns-clause-shorter
returns-clause-shorter c = behind_shorter _ (rest_of c.skip_gaps-at.result) (rest_of c.in-Ok.next)
    (piece_of c.in-Ok.piece) c.skip_gaps-at.ensures.gaps c.in-Ok.ensures.piece
