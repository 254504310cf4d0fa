use Rattle.std.proofs.Common.{◌≡◌, ◌∙◌, [], ◌∷◌, ◌++◌, arith, ap, subst, sym, List, ℕ}
use Rattle.std.specs.Prelude.{option_copied}
use Rattle.std.proofs.lemmas.Result.{IfOk-weaker}
use Rattle.terms.specs.Beside.{Beside}
use Rattle.terms.specs.Types.{Text, Id}
use Rattle.terms.proofs.BesideLists.{beside_through}
use Rattle.smpe_why.specs.Telling.{Inquiry, AreToldBy}
use Rattle.smpe_why.proofs.Parts.{told_none, told_more, told_once, told_each}
use Rattle.smpe_why.proofs.told.answer_in_zone.Goals as goal

pub returns-then-question : goal.returns-then-question
returns-then-question c =
    let g = c.args.lookups.now.global.now in
    let zone = c.args.lookups.now.zone.now in
    let related = option_copied c.args.related in
    let question = c.args.question.now in
    let ids : c.question.inside.ids.now ≡ question.ids = ap (λ (a : Inquiry). a.ids) c.question.view_is in
    IfOk-weaker c.describe_selected_ids.result _ _ (λ told by. told_once g zone related question told
    (sym (ap (λ (a : Inquiry). a.together) c.question.view_is) ∙ c.if-question.true)
    (subst (λ (l : List Id). AreToldBy g zone related question l told.text.items told.status) ids by))
    c.describe_selected_ids.ensures

pub loop-id-init : goal.loop-id-init
loop-id-init c = told_none _ _ c.new.ensures.items

pub loop-id-preserved : goal.loop-id-preserved
loop-id-preserved c =
    told_more _ c.question.inside.ids.now c.loop-id.id-index c.id-item.result _ _ _ _ _ _ (omega arith) c.id-item.is
    c.loop-id.invariant c.in_ok-part.ensures
    (c.in_ok-extend_from_slice.ensures.items ∙ ap (λ l. c.loop-id.answer.text.items ++ l) c.as_slice.ensures.value)
    c.max.ensures

pub returns : goal.returns
returns c =
    let g = c.args.lookups.now.global.now in
    let zone = c.args.lookups.now.zone.now in
    let related = option_copied c.args.related in
    let question = c.args.question.now in
    let all = c.loop-id.invariant in
    let ids : c.question.inside.ids.now ≡ question.ids = ap (λ (a : Inquiry). a.ids) c.question.view_is in
    told_each g zone related question c.loop-id.answer
    (sym (ap (λ (a : Inquiry). a.together) c.question.view_is) ∙ c.if-question.false) all.parts
    (subst (λ (l : List Id). Beside (λ n x (p : Text × ℕ). AreToldBy g zone related question (x ∷ []) p.0 p.1) l
    all.parts) ids
    (beside_through _ c.question.inside.ids.now all.parts c.loop-id.id-index (omega arith) all.each))
    all.text_is all.code_is
