use Rattle.std.proofs.Common.{◌∙◌, ◌++◌, ◌∷◌, [], map, take, sym, ap, subst, refl}
use Rattle.std.specs.Borrow.{Bor}
use Rattle.std.specs.List.{All}
use Rattle.std.proofs.lemmas.List.{take_more, map-append}
use Rattle.std.proofs.lemmas.List.Elements.{All-push}
use Rattle.terms.specs.Types.{Text}
use Rattle.terms.specs.Forms.{IsSource}
use Rattle.intake_asked.proofs.Listed.{word_at}
use Rattle.intake_asked.proofs.known.read_sources.Goals as goal

pub returns-in_default-clause-none : goal.returns-in_default-clause-none
returns-in_default-clause-none c all =
    let wrong = c.in_default.ensures.form.1 (word_at IsSource c.args.words.now all c.loop-word.word-index _
    c.loop-word-test.true) in cc

pub loop-word-preserved : goal.loop-word-preserved
loop-word-preserved c =
    let words = c.args.words.now in
    let i = c.loop-word.word-index in
    let inv = c.loop-word.invariant in
    let source = c.in-Some.source in
    let pushed = c.in_ok-push.ensures.items in (
      pushed ∙ ap (λ sources. sources ++ source ∷ []) inv.0
          ∙ ap (λ (last : Text). map (λ (word : Bor Text). word.now) (take i words) ++ last ∷ [])
          c.in-Some.ensures.same
          ∙ sym (ap (map (λ (word : Bor Text). word.now)) (take_more words i _ c.loop-word-test.true)
          ∙ map-append (λ (word : Bor Text). word.now) (take i words) _),
      subst (All IsSource) (sym pushed) (All-push IsSource c.loop-word.sources.items source inv.1
          (rw c.in-Some.ensures.same (c.in-Some.ensures.form.0 refl))),
    )
