use Rattle.std.proofs.Common.{not, ap, ◌∙◌}
use Rattle.std.specs.List.{list_any}
use Rattle.intake_carry.specs.Unsure.{has_id}
use Rattle.intake_carry.proofs.left_out_sysmods.is_left_out.Goals as goal

pub returns-in-Some : goal.returns-in-Some
returns-in-Some c = λ items are left.
    ap not (c.contains.ensures ∙ are c.in-Some.id ∙ ap (λ x. list_any (has_id x) items) c.in-Some.ensures.same) ∙ left
