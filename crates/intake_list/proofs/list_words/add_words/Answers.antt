use Rattle.std.proofs.Common.{◌++◌, ◌∙◌, ap, map, sym, append-nil, arith}
use Rattle.std.proofs.lemmas.List.{take_all}
use Rattle.intake_list.proofs.Rest.{words_push}
use Rattle.intake_list.proofs.list_words.add_words.Goals as goal

pub loop-word-init : goal.loop-word-init
loop-word-init c = sym (append-nil (map (λ word. word.now) c.args.words.now.items))

pub loop-word-preserved : goal.loop-word-preserved
loop-word-preserved c =
    let l = c.loop-word in
    words_push l.words.items c.args.words.now.items c.args.more.now c.push.new.self.items l.word-index _
    c.loop-word-test.true c.in_ok-push.ensures.items l.invariant

pub returns : goal.returns
returns c =
    c.loop-word.invariant
    ∙ ap (λ more. map (λ word. word.now) c.args.words.now.items ++ map (λ word. word.now) more)
    (take_all c.loop-word.word-index c.args.more.now (omega arith))
