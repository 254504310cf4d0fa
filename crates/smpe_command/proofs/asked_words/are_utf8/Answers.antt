use Rattle.std.proofs.Common.{IsTrue, true≢false, take, refl, sym, subst, arith}
use Rattle.std.proofs.lemmas.List.{take_all}
use Rattle.std.proofs.lemmas.List.Elements.{All-more, All-same}
use Rattle.std.specs.Str.{IsUtf8}
use Rattle.smpe_command.proofs.asked_words.are_utf8.Goals as goal

pub returns-then-not-is_utf8 : goal.returns-then-not-is_utf8
returns-then-not-is_utf8 c = (
  λ never. absurd (true≢false (sym never)),
  λ all.
      let here = all c.loop-word.word-index c.word-item.result c.loop-word-test.true in
      let text : IsUtf8 c.as_slice.result.now =
      subst IsUtf8 (sym c.as_slice.ensures.value)
      (subst (λ word. IsUtf8 word.items) (sym c.word-item.is) here) in
      let is : IsTrue c.is_utf8.result = c.is_utf8.ensures.1 text in
      grind (arith, is),
)

pub loop-word-preserved : goal.loop-word-preserved
loop-word-preserved c =
    let is : IsTrue c.is_utf8.result = grind arith in
    All-more (λ word. IsUtf8 word.items) c.args.words.now c.loop-word.word-index c.word-item.result
    c.loop-word-test.true c.loop-word.invariant
    (subst (λ word. IsUtf8 word.items) c.word-item.is
    (subst IsUtf8 c.as_slice.ensures.value (c.is_utf8.ensures.0 is)))

pub returns : goal.returns
returns c = (
  λ done. All-same (λ word. IsUtf8 word.items) c.args.words.now (take c.loop-word.word-index c.args.words.now)
      (sym (take_all c.loop-word.word-index c.args.words.now (omega (arith, c.loop-word-test.false))))
      c.loop-word.invariant,
  λ all. refl,
)
