use Rattle.std.proofs.Common.{map, subst, Contains}
use Rattle.std.specs.Prelude.{◌↔◌}
use Rattle.report.specs.Views.{line_view}
use Rattle.smpe_mend.specs.Runs.{asked_of}
use Rattle.smpe_mend.specs.Asked.{concern}
use Rattle.smpe_mend.specs.Growth.{IsFound}
use Rattle.smpe_mend.proofs.Answering.{plan_answer, none_answer}
use Rattle.smpe_mend.proofs.mended.mend_received.Goals as goal

pub returns-in_ok-plan_text-in-Repair-clause-answers : goal.returns-in_ok-plan_text-in-Repair-clause-answers
returns-in_ok-plan_text-in-Repair-clause-answers c =
    plan_answer c.args.global.now c.grow.new.global c.smallest.new.global (asked_of c.args.broken.now)
    c.in_ok-tried-in-Repair.tried c.in_ok-plan_text-in-Repair.field-0.items c.in_ok-tried.ensures.back
    c.in_ok-tried-in-Repair.ensures.back c.in_ok-tried-in-Repair.ensures.repairs
    c.in_ok-tried-in-Repair.ensures.minimal
    (rw (c.deref.ensures.value, c.deref-in-Repair.ensures.value) at c.in_ok-plan_text-in-Repair.ensures)

pub returns-in_ok-refusal_text-in-Nothing-clause-answers : goal.returns-in_ok-refusal_text-in-Nothing-clause-answers
returns-in_ok-refusal_text-in-Nothing-clause-answers c =
    let g = c.args.global.now in
    let ids = c.args.broken.now.ids.now in
    let concerned = c.in_ok-concerned-in-Nothing.concerned in
    none_answer g (asked_of c.args.broken.now) c.in-Nothing.tried concerned
    c.in_ok-refusal_text-in-Nothing.field-0.items
    (subst (λ f. IsFound g (asked_of c.args.broken.now) f) c.in-Nothing.is c.in_ok-tried.ensures.found)
    (λ x. subst (λ l. Contains concerned x ↔ Contains (concern ids (map line_view l)) x)
    c.deref-in-Nothing.ensures.value (c.in_ok-concerned-in-Nothing.ensures x))
    (rw c.deref-in-Nothing-2.ensures.value at c.in_ok-refusal_text-in-Nothing.ensures)
