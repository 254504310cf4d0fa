use Rattle.std.proofs.Common.{◌≡◌, ◌++◌, None, Some, subst}
use Rattle.std.specs.Prelude.{OnOk}
use Rattle.std.proofs.lemmas.Result.{IfOk-equal}
use Rattle.terms.specs.Types.{Hold}
use Rattle.report.specs.Facts.{HoldFact}
use Rattle.sysmods_values.specs.contracts.hold.Hold.{the_view}
use Rattle.why_facts.specs.FactText.{fact_text}
use Rattle.report.specs.FactViews.{resolution_view}
use Rattle.why_facts.proofs.TextParts.{hold_answered, hold_unanswered}
use Rattle.why_facts.proofs.asked_lines.append_hold.Goals as goal

pub returns-in_ok-append_comment-in-Some : goal.returns-in_ok-append_comment-in-Some
returns-in_ok-append_comment-in-Some c =
    let a = resolution_view c.in-Some.resolution in
    rw c.in-Some.is (subst (λ (h : Hold). OnOk c.append_supplying_ids.result
    (c.append_supplying_ids.new.text.items ≡ c.args.text.now.items ++ fact_text (HoldFact h (Some a)))) c.hold.view_is
    (IfOk-equal c.append_supplying_ids.result c.append_supplying_ids.new.text.items _ _ c.append_supplying_ids.ensures
    (hold_answered (the_view c.hold.inside) a c.args.text.now.items c.hold_text.ensures c.as_bytes.ensures.same
    c.class_or_dash.ensures c.date_or_dash.ensures c.resolution_word.ensures c.in_ok-append_words-in-Some.ensures
    c.in_ok-append_comment-in-Some.ensures)))

pub returns-in_ok-append_words-in-None : goal.returns-in_ok-append_words-in-None
returns-in_ok-append_words-in-None c =
    rw c.in-None.is (subst (λ (h : Hold). OnOk c.append_comment-in-None.result
    (c.append_comment-in-None.new.text.items ≡ c.args.text.now.items ++ fact_text (HoldFact h None))) c.hold.view_is
    (IfOk-equal c.append_comment-in-None.result c.append_comment-in-None.new.text.items _ _ c.append_comment-in-None.ensures
    (hold_unanswered (the_view c.hold.inside) c.args.text.now.items c.hold_text.ensures c.as_bytes.ensures.same
    c.class_or_dash.ensures c.date_or_dash.ensures c.in_ok-append_words-in-None.ensures)))
