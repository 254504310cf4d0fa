use Rattle.std.proofs.Common.{◌≡◌, ◌++◌, subst}
use Rattle.std.specs.Prelude.{OnOk}
use Rattle.std.proofs.lemmas.Result.{IfOk-equal}
use Rattle.report.specs.Facts.{Requisite, RequisiteFact, a_requisite}
use Rattle.why_facts.specs.FactText.{fact_text}
use Rattle.report.specs.FactViews.{resolution_view}
use Rattle.why_facts.proofs.TextParts.{requisite_by_if, requisite_by_itself}
use Rattle.why_facts.proofs.asked_lines.append_requisite.Goals as goal

pub returns-in_ok-append_words-in-Some : goal.returns-in_ok-append_words-in-Some
returns-in_ok-append_words-in-Some c =
    let i = c.requisite.inside in
    let a = resolution_view c.args.resolution.now in
    subst (λ (r : Requisite). OnOk c.append_supplying_ids.result
    (c.append_supplying_ids.new.text.items ≡ c.args.text.now.items ++ fact_text (RequisiteFact r a))) c.requisite.view_is
    (IfOk-equal c.append_supplying_ids.result c.append_supplying_ids.new.text.items _ _ c.append_supplying_ids.ensures
    (requisite_by_if (a_requisite i.kind i.by i.function i.id) a c.in-Some.function c.args.text.now.items
    c.in-Some.is c.need_text.ensures c.as_bytes.ensures.same c.as_bytes-in-Some.ensures.same c.as_bytes-2.ensures.same
    c.resolution_word.ensures c.in_ok-append_words-in-Some.ensures))

pub returns-in_ok-append_words-in-None : goal.returns-in_ok-append_words-in-None
returns-in_ok-append_words-in-None c =
    let i = c.requisite.inside in
    let a = resolution_view c.args.resolution.now in
    subst (λ (r : Requisite). OnOk c.append_supplying_ids-in-None.result
    (c.append_supplying_ids-in-None.new.text.items ≡ c.args.text.now.items ++ fact_text (RequisiteFact r a)))
    c.requisite.view_is
    (IfOk-equal c.append_supplying_ids-in-None.result c.append_supplying_ids-in-None.new.text.items _ _
    c.append_supplying_ids-in-None.ensures
    (requisite_by_itself (a_requisite i.kind i.by i.function i.id) a c.args.text.now.items
    c.in-None.is c.need_text.ensures c.as_bytes.ensures.same c.resolution_word.ensures
    c.in_ok-append_words-in-None.ensures))
