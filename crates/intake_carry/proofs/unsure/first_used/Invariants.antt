use Rattle.std.proofs.Common.{◌≡◌, false, take}
use Rattle.std.specs.Prelude.{All, is_some}
use Rattle.std.specs.Ordering.{nat_cmp}
use Rattle.std.specs.BTreeMap.{get}
use Rattle.intake_elements.specs.StandInNames.{key_of}
use Rattle.intake_carry.proofs.unsure.first_used.Given as goal

abbrev pub invariant-loop-change : goal.invariant-loop-change
invariant-loop-change l = All (λ h. is_some (get nat_cmp l.users (key_of h.elem_type h.name)) ≡ false)
    (take l.change-index l.changes)
