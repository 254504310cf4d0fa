use Rattle.std.proofs.Common.{length, refl, arith}
use Rattle.std.proofs.lemmas.Option.{slice_get_read}
use Rattle.smpe_certificate.specs.declared.facts.IneligibleFact.{IneligibleFact}
use Rattle.smpe_certificate.proofs.Collecting.{ineligible_skip, ineligible_add}
use Rattle.smpe_certificate.proofs.ineligible.ineligible_facts.Goals as goal

pub loop-i-preserved-in_default : goal.loop-i-preserved-in_default
loop-i-preserved-in_default c =
    ineligible_skip c.args.ids.now c.args.tests.now c.loop-i.i c.item_at.result c.loop-i.facts.items c.item_at.ensures
    (rw c.in_default.is at c.first_test.ensures.none) c.loop-i.invariant

pub loop-i-preserved : goal.loop-i-preserved
loop-i-preserved c =
    let ids = c.args.ids.now in
    let i = c.loop-i.i in
    let f : IneligibleFact = record { id = c.index-ids-i.result; test = c.in-Some.test } in
    ineligible_add ids c.args.tests.now i c.item_at.result f c.loop-i.facts.items c.push.new.self.items
    (slice_get_read ids (length ids) i c.index-ids-i.result refl (omega arith) c.index-ids-i.is)
    c.item_at.ensures (rw c.in-Some.is at c.first_test.ensures.some) c.in_ok-push.ensures.items c.loop-i.invariant
