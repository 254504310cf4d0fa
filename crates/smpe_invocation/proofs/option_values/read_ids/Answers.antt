use Rattle.std.proofs.Common.{◌∙◌, ◌++◌, ◌∷◌, [], All, map, take, sym, ap, subst}
use Rattle.std.specs.Borrow.{Bor}
use Rattle.std.proofs.lemmas.List.{take_more, map-append}
use Rattle.std.proofs.lemmas.List.Elements.{All-push}
use Rattle.terms.specs.Types.{Text}
use Rattle.terms.specs.Forms.{IsId}
use Rattle.smpe_invocation.proofs.Excluding.{handed_on}
use Rattle.smpe_invocation.proofs.Ids.{id_at}
use Rattle.smpe_invocation.proofs.option_values.read_ids.Goals as goal

pub returns-in_err-id-clause-err : goal.returns-in_err-id-clause-err
returns-in_err-id-clause-err c =
    handed_on _ _ _ _ c.from_residual.ensures.1
    (λ all. id_at c.args.texts.now all c.loop-text.text-index _ c.loop-text-test.true)
    c.in_err-id.ensures.err

pub loop-text-preserved : goal.loop-text-preserved
loop-text-preserved c =
    let texts = c.args.texts.now in
    let i = c.loop-text.text-index in
    let inv = c.loop-text.invariant in
    let pushed = c.in_ok-push.ensures.items in
    let id = c.in_ok-id.ensures.ok in (
      pushed ∙ ap (λ ids. ids ++ c.in_ok-id.id ∷ []) inv.0
          ∙ ap (λ (last : Text). map (λ (text : Bor Text). text.now) (take i texts) ++ last ∷ []) id.0
          ∙ sym (ap (map (λ (text : Bor Text). text.now)) (take_more texts i _ c.loop-text-test.true)
          ∙ map-append (λ (text : Bor Text). text.now) (take i texts) _),
      subst (All IsId) (sym pushed) (All-push IsId c.loop-text.ids.items c.in_ok-id.id inv.1 id.1),
    )
