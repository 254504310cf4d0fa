use Rattle.rec80.specs.Views.{left_of, words_of}
use Rattle.rec80.proofs.WordsAmong.{reads_all, reads_next, reads_words, reads_alone}
use Rattle.rec80.proofs.words.Words.operands.Goals as goal

pub loop-found-init : goal.loop-found-init
loop-found-init c = λ pieces h. rw c.new.ensures.items (reads_all (left_of c.args.self.now) pieces h)

pub loop-found-preserved : goal.loop-found-preserved
loop-found-preserved c = λ pieces h.
    reads_next (left_of c.loop-found.left) (left_of c.next_operand.new.self) pieces c.in-Some.found c.loop-found.read
    c.add.new.self (c.loop-found.invariant pieces h) c.in-Some.ensures.word c.in-Some.ensures.other
    c.in_ok-add.ensures.word c.in_ok-add.ensures.other

pub returns : goal.returns
returns c = λ pieces h. record {
  words_are = reads_words (left_of c.loop-found.left) (words_of c.loop-found.read.words.items) c.loop-found.read.only_words
      pieces (c.loop-found.invariant pieces h) c.in_default.ensures.end;
  only_words_is = reads_alone (left_of c.loop-found.left) (words_of c.loop-found.read.words.items) c.loop-found.read.only_words
      pieces (c.loop-found.invariant pieces h) c.in_default.ensures.end;
}
