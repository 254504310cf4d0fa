use Rattle.std.proofs.Common.{List, ℕ, ◌++◌, ◌∙◌, ap, arith, map, sym, take_all, append_assoc}
use Rattle.std.specs.Prelude.{codes}
use Rattle.std.specs.List.{flat_map}
use Rattle.std.proofs.lemmas.List.Folds.{flat_map-map}
use Rattle.report.specs.Facts.{Maker}
use Rattle.why_verdict.specs.Verdict.{maker_reason}
use Rattle.report.specs.FactViews.{maker_view}
use Rattle.report.proofs.Texts.{flat_more}
use Rattle.why_verdict.proofs.reasons.append_makers_reason.Goals as goal

pub loop-umid-preserved : goal.loop-umid-preserved
loop-umid-preserved c =
    let element = c.args.element.now in
    flat_more (λ m. maker_reason c.args.test element.elem_type element.name (codes "UMID") (maker_view m))
    c.as_slice-umid-items.result.now c.loop-umid.umid-index c.umid-item.result c.append_maker_reason.new.text.items
    c.loop-umid.text.items c.append_maker_reason-in-loop-umid.new.text.items (omega arith) c.umid-item.is
    c.loop-umid.invariant
    c.in_ok-append_maker_reason-2.ensures

pub returns : goal.returns
returns c =
    let element = c.args.element.now in
    let told : Maker → List ℕ = maker_reason c.args.test element.elem_type element.name (codes "UMID") in
    let found = c.args.found.now in
    let rmid : List ℕ = maker_reason c.args.test element.elem_type element.name (codes "RMID")
    (maker_view found.rmid) in
    let umids : List ℕ = flat_map told (map maker_view found.umids.items) in
    c.loop-umid.invariant
    ∙ ap (λ l. c.append_maker_reason.new.text.items ++ flat_map (λ m. told (maker_view m)) l)
    (take_all c.loop-umid.umid-index c.as_slice-umid-items.result.now (omega arith)
    ∙ c.as_slice-umid-items.ensures.value)
    ∙ ap (λ l. c.append_maker_reason.new.text.items ++ l) (sym (flat_map-map told maker_view found.umids.items))
    ∙ ap (λ l. l ++ umids) c.in_ok-append_maker_reason.ensures
    ∙ append_assoc c.args.text.now.items rmid umids
