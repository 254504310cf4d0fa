use Rattle.std.proofs.Common.{◌∙◌, subst, Contains}
use Rattle.std.specs.Prelude.{◌↔◌}
use Rattle.smpe_mend.proofs.SameMembers.{same_all}
use Rattle.smpe_mend.proofs.on.are_on.Goals as goal

pub returns : goal.returns
returns c =
    c.are_all_in.ensures
    ∙ same_all c.args.ids.now c.from_vec-on.result _ (λ x. subst (λ l. Contains c.from_vec-on.result x ↔ Contains l x)
    c.in_ok-on_ids.ensures (c.from_vec-on.ensures.members x))
