use Rattle.std.proofs.Common.{◌≡◌, false, subst}
use Rattle.std.specs.Prelude.{All, is_some}
use Rattle.std.specs.Ordering.{nat_cmp}
use Rattle.std.specs.BTreeMap.{get}
use Rattle.std.proofs.lemmas.Result.{IfOk-weaker}
use Rattle.intake_elements.specs.StandInNames.{key_of}
use Rattle.intake_carry.proofs.UnsureNames.{meet_nothing, none_weaker}
use Rattle.intake_carry.proofs.unsure.reason_for.Goals as goal

pub returns-in_default : goal.returns-in_default
returns-in_default c =
    let users = c.args.doubts.now.users.now in
    IfOk-weaker c.reason_without_shared.result _ _ (λ found none.
    none_weaker found none (λ apart.
    meet_nothing (λ l. l.now) users c.args.doubts.now.left.now c.args.sysmod.now c.requires
    (subst (All (λ h. is_some (get nat_cmp users (key_of h.elem_type h.name)) ≡ false)) c.changes_of.ensures
    (rw c.in_default.is at c.first_used.ensures)) apart)) c.reason_without_shared.ensures
