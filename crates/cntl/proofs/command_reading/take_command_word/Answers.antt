use Rattle.std.proofs.Common.{◌∙◌, sym}
use Rattle.terms.specs.Spelling.{word_text}
use Rattle.rec80.specs.Views.{left_of}
use Rattle.cntl.proofs.Worded.{no_piece, no_word, word_taken, word_unknown}
use Rattle.cntl.proofs.command_reading.take_command_word.Goals as goal

pub returns-in_err-piece-clause-none : goal.returns-in_err-piece-clause-none
returns-in_err-piece-clause-none c = rw c.from_residual.ensures
    (λ pieces h w rest b. no_piece pieces w rest (c.in_err-piece.ensures.piece pieces h) b)

pub returns-in_default : goal.returns-in_default
returns-in_default c = record {
  word = tt;
  none = λ pieces h w rest b. let t = c.in_ok-piece.ensures.piece pieces h
      in no_word c.in_ok-piece.piece c.in_default.not-Word (word_text w) t.0 rest (sym t.1 ∙ b);
}

pub returns-clause-word : goal.returns-clause-word
returns-clause-word c =
    let takes = rw c.in-Word.is at c.in_ok-piece.ensures.piece in
    word_taken c.read_word.result c.in-Word.text.now (left_of c.args.left.now) (left_of c.next_piece.new.self)
    c.read_word.ensures.found takes

pub returns-clause-none : goal.returns-clause-none
returns-clause-none c =
    let takes = rw c.in-Word.is at c.in_ok-piece.ensures.piece in
    word_unknown c.read_word.result c.in-Word.text.now (left_of c.args.left.now) (left_of c.next_piece.new.self)
    c.read_word.ensures.none takes
