use Rattle.std.proofs.Common.{◌≡◌, ◌∙◌, ap, arith, refl, sym}
use Rattle.std.specs.Str.{bytes_eq}
use Rattle.terms.specs.Types.{IfReq}
use Rattle.report.specs.Facts.{stated_by}
use Rattle.why_facts.proofs.Growing.{kept_more, grown_then, grown_else}
use Rattle.why_facts.proofs.requisites.push_ifreqs_for.Goals.{then-eq+in_ok-push_ifreqs, else-eq}
use Rattle.why_facts.proofs.requisites.push_ifreqs_for.Goals as goal

pub loop-condition-preserved : goal.loop-condition-preserved
loop-condition-preserved c =
    let f = c.args.function in
    let same : bytes_eq f c.condition-item.result.function ≡ c.eq.result =
    ap (λ (i : IfReq). bytes_eq f i.function) (sym c.condition.view_is) ∙ sym c.eq.ensures in
    let more = kept_more (λ i. bytes_eq f i.function) (stated_by c.args.by) c.args.conditions.now
    c.loop-condition.condition-index c.condition-item.result (omega arith) c.condition-item.is in
    elim c.if-eq.branch [
      | then-eq+in_ok-push_ifreqs w ↦
          rw w.found-is (grown_then c.args.found.now.items _ _ _ _ _ _ c.loop-condition.invariant more
          (same ∙ w.if-eq.true) w.in_ok-push_ifreqs.ensures)
      | else-eq w ↦
          rw w.found-is (grown_else c.args.found.now.items _ _ _ _ _ _ c.loop-condition.invariant more
          (same ∙ w.if-eq.false) refl)
    ]
