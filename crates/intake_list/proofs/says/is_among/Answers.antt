use Rattle.std.proofs.Common.{◌∙◌, sym, arith}
use Rattle.std.specs.Str.{bytes_eq}
use Rattle.intake_list.proofs.Rest.{any_here, any_more, any_none}
use Rattle.intake_list.proofs.says.is_among.Goals as goal

pub returns-then-are_same : goal.returns-then-are_same
returns-then-are_same c =
    any_here (λ word. bytes_eq word c.args.text.now) c.args.words.now c.loop-word.word-index _ _ c.loop-word-test.true
    (sym c.are_same.ensures ∙ c.if-are_same.true) c.loop-word.invariant

pub loop-word-preserved : goal.loop-word-preserved
loop-word-preserved c =
    any_more (λ word. bytes_eq word c.args.text.now) c.args.words.now c.loop-word.word-index _ _ c.loop-word-test.true
    (sym c.are_same.ensures ∙ c.if-are_same.false) c.loop-word.invariant

pub returns : goal.returns
returns c =
    any_none (λ word. bytes_eq word c.args.text.now) c.args.words.now c.loop-word.word-index _ (omega arith)
    c.loop-word.invariant
