use Rattle.std.proofs.Common.{subst}
use Rattle.terms.proofs.ExactWords.{words_only}
use Rattle.rec80.specs.Views.{words_of}
use Rattle.mcs.specs.Holds.{HasKey}
use Rattle.mcs.specs.KnownWords.{own_list}
use Rattle.mcs.proofs.HoldKeys.{release_is, release_key}
use Rattle.mcs.proofs.hold_operands.release_of_operands.Goals as goal

pub returns-in_default-clause-bad : goal.returns-in_default-clause-bad
returns-in_default-clause-bad c = λ rest h ws r words i. c.in_default.ensures.none rest h ws words i.are_operands

pub returns-in-Some-read_key-clause-ok : goal.returns-in-Some-read_key-clause-ok
returns-in-Some-read_key-clause-ok c = λ rest h. (
  words_of c.in-Some.words.now,
  c.in-Some.ensures.words rest h,
  release_is (own_list c.args.known.now) (words_of c.in-Some.words.now) c.in-Some-read_key.release
      c.in-Some.ensures.operands c.in-Some-read_key.ensures.some,
)

pub returns-in-None-clause-bad : goal.returns-in-None-clause-bad
returns-in-None-clause-bad c = λ rest h ws r words i.
    let own = own_list c.args.known.now in
    let same = words_only rest ws (words_of c.in-Some.words.now) words (c.in-Some.ensures.words rest h) in
    c.in-None.ensures.none r (subst (λ l. HasKey own l r) same (release_key own ws r i))
