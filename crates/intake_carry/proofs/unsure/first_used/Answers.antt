use Rattle.std.proofs.Common.{◌≡◌, ◌∙◌, false, sym, arith}
use Rattle.std.specs.Prelude.{is_some}
use Rattle.std.specs.Ordering.{nat_cmp}
use Rattle.std.specs.BTreeMap.{get}
use Rattle.terms.proofs.BesideLists.{all_next, all_through}
use Rattle.intake_elements.specs.StandInNames.{key_of}
use Rattle.intake_carry.proofs.unsure.first_used.Goals as goal

pub loop-change-preserved : goal.loop-change-preserved
loop-change-preserved c =
    all_next (λ h. is_some (get nat_cmp c.args.users.now (key_of h.elem_type h.name)) ≡ false) c.args.changes.now
    c.loop-change.change-index c.change-item.result (omega arith) c.change-item.is
    (sym c.is_used.ensures ∙ c.if-is_used.false) c.loop-change.invariant

pub returns : goal.returns
returns c =
    all_through (λ h. is_some (get nat_cmp c.args.users.now (key_of h.elem_type h.name)) ≡ false) c.args.changes.now
    c.loop-change.change-index (omega arith) c.loop-change.invariant
