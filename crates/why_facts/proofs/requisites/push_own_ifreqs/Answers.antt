use Rattle.std.proofs.Common.{◌≡◌, ◌∙◌, ap, arith, refl, sym}
use Rattle.terms.specs.Types.{IfReq}
use Rattle.report.specs.Facts.{stated_by}
use Rattle.why_facts.specs.Asking.{is_there}
use Rattle.why_facts.proofs.Growing.{kept_more, grown_then, grown_else}
use Rattle.why_facts.proofs.requisites.push_own_ifreqs.Goals.{then-has_function+in_ok-push_ifreqs}
use Rattle.why_facts.proofs.requisites.push_own_ifreqs.Goals.{else-has_function}
use Rattle.why_facts.proofs.requisites.push_own_ifreqs.Goals as goal

pub loop-condition-preserved : goal.loop-condition-preserved
loop-condition-preserved c =
    let a = c.args.asking.now in
    let there : is_there a c.condition-item.result.function ≡ c.has_function.result =
    ap (λ (i : IfReq). is_there a i.function) (sym c.condition.view_is) ∙ sym c.has_function.ensures in
    let more = kept_more (λ i. is_there a i.function) (stated_by a.id) c.args.conditions.now
    c.loop-condition.condition-index c.condition-item.result (omega arith) c.condition-item.is in
    elim c.if-has_function.branch [
      | then-has_function+in_ok-push_ifreqs w ↦
          rw w.found-is (grown_then c.args.found.now.items _ _ _ _ _ _ c.loop-condition.invariant more
          (there ∙ w.if-has_function.true) w.in_ok-push_ifreqs.ensures)
      | else-has_function w ↦
          rw w.found-is (grown_else c.args.found.now.items _ _ _ _ _ _ c.loop-condition.invariant more
          (there ∙ w.if-has_function.false) refl)
    ]
