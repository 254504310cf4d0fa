use Rattle.std.proofs.Common.{ap, length, arith, ◌∙◌}
use Rattle.terms.proofs.BesideLists.{beside_next, beside_through}
use Rattle.intake_sysmod.specs.NoLooser.{IsVer}
use Rattle.intake_sysmod.proofs.VersMore.{ver_made, wholly_read}
use Rattle.intake_sysmod.proofs.vers.vers_for_srels.Goals as goal

pub loop-srel-preserved : goal.loop-srel-preserved
loop-srel-preserved c =
    beside_next (λ _ s. IsVer c.args.stated.now s.items) c.args.stated.now.srels.items c.loop-srel.vers.items
    c.push.new.self.items c.loop-srel.srel-index c.srel-item.result c.in_ok-ver_for_srel.field-0
    (omega (arith, ap length c.deref-srel-items.ensures.value)) (rw c.deref-srel-items.ensures.value at c.srel-item.is)
    c.in_ok-push.ensures.items
    (ver_made c.args.stated.now c.args.operands.now c.srel-item.result.items c.in-Some.srel c.in_ok-ver_for_srel.field-0
    c.requires (c.in-Some.ensures.same ∙ c.as_slice.ensures.value) c.in_ok-ver_for_srel.ensures) c.loop-srel.invariant

pub returns : goal.returns
returns c = record {
  read = wholly_read c.args.stated.now c.args.operands.now c.requires;
  each = beside_through (λ _ s. IsVer c.args.stated.now s.items) c.args.stated.now.srels.items
      c.loop-srel.vers.items c.loop-srel.srel-index (omega (arith, ap length c.deref-srel-items.ensures.value))
      c.loop-srel.invariant;
}
