use Rattle.std.proofs.Common.{◌≡◌, ◌++◌, ◌∙◌, Option, ap, arith, subst, sym, take_all}
use Rattle.std.specs.Prelude.{OnOk, codes, option_map}
use Rattle.std.specs.List.{flat_map}
use Rattle.std.proofs.lemmas.List.Folds.{flat_map-map}
use Rattle.std.proofs.lemmas.Result.{IfOk-weaker}
use Rattle.report.specs.declared.fact.ElementLevel.{ElementLevel}
use Rattle.report.specs.Facts.{ElementFact}
use Rattle.why_facts.specs.FactText.{fact_text, maker_line}
use Rattle.report.specs.FactViews.{maker_view, level_view}
use Rattle.report.proofs.Texts.{flat_more}
use Rattle.why_facts.proofs.TextParts.{element_there, element_missing}
use Rattle.why_facts.proofs.element_lines.append_element.Goals as goal

pub returns-in_default : goal.returns-in_default
returns-in_default c =
    let e = c.args.element.now in
    subst (λ (o : Option ElementLevel). OnOk c.append_words.result (c.append_words.new.text.items
    ≡ c.args.text.now.items
    ++ fact_text (ElementFact e.elem_type e.name e.replaces e.brought (option_map level_view o))))
    (sym c.in_default.is) (IfOk-weaker c.append_words.result _ _
    (λ done put. element_missing e.elem_type e.name e.replaces e.brought c.args.text.now.items c.type_text.ensures
    c.as_bytes.ensures.same put) c.append_words.ensures)

pub loop-umid-preserved : goal.loop-umid-preserved
loop-umid-preserved c =
    flat_more (λ m. maker_line (codes "UMID") (maker_view m)) c.as_slice-umid-items.result.now c.loop-umid.umid-index
    c.umid-item.result c.append_maker.new.text.items c.loop-umid.text.items c.append_maker-in-loop-umid.new.text.items
    (omega arith) c.umid-item.is c.loop-umid.invariant c.in_ok-append_maker-2.ensures

pub returns : goal.returns
returns c =
    let e = c.args.element.now in
    let found = c.in-Some.found in
    let f = level_view found in
    subst (λ (o : Option ElementLevel). c.loop-umid.text.items
    ≡ c.args.text.now.items ++ fact_text (ElementFact e.elem_type e.name e.replaces e.brought (option_map level_view o)))
    (sym c.in-Some.is) (c.loop-umid.invariant
    ∙ ap (λ l. c.append_maker.new.text.items ++ flat_map (λ m. maker_line (codes "UMID") (maker_view m)) l)
    (take_all c.loop-umid.umid-index c.as_slice-umid-items.result.now (omega arith)
    ∙ c.as_slice-umid-items.ensures.value)
    ∙ ap (λ l. c.append_maker.new.text.items ++ l)
    (sym (flat_map-map (maker_line (codes "UMID")) maker_view found.umids.items))
    ∙ element_there e.elem_type e.name e.replaces e.brought f c.args.text.now.items c.type_text.ensures c.as_bytes.ensures.same
    c.as_bytes-2.ensures.same c.in_ok-append_words.ensures c.in_ok-append_maker.ensures)
