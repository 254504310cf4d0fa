use Rattle.std.proofs.Common.{◌∙◌, List, subst, arith}
use Rattle.std.specs.Prelude.{All}
use Rattle.std.proofs.lemmas.List.{take_all}
use Rattle.std.proofs.lemmas.List.Elements.{All-more}
use Rattle.terms.specs.Types.{Element}
use Rattle.terms.specs.Texts.{HasForm}
use Rattle.smpe_verify.proofs.closed.attest_texts.Goals as goal

pub loop-element-preserved : goal.loop-element-preserved
loop-element-preserved c =
    All-more (λ e. HasForm e.elem_type e.text) c.elements-element-items.result.now c.loop-element.element-index
    c.element-item.result c.loop-element-test.true c.loop-element.invariant
    (subst (λ (e : Element). HasForm e.elem_type e.text) c.element-item.is c.attest_text.ensures)

pub returns : goal.returns
returns c =
    let items = c.elements-element-items.result.now in
    subst (λ (es : List Element). All (λ e. HasForm e.elem_type e.text) es)
    (take_all c.loop-element.element-index items (omega arith) ∙ c.elements-element-items.ensures)
    c.loop-element.invariant
