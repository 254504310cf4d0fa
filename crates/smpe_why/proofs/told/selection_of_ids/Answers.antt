use Rattle.std.proofs.Common.{refl, subst, Contains}
use Rattle.std.specs.Prelude.{◌↔◌}
use Rattle.smpe_why.proofs.told.selection_of_ids.Goals as goal

pub returns : goal.returns
returns c =
    record {
      rising = c.from_vec-select.ensures.rising;
      members = λ x. subst (λ l. Contains c.from_vec-select.result x ↔ Contains l x) c.in_ok-from_slice.ensures.items
          (c.from_vec-select.ensures.members x);
      selection = rw (c.new-exclude.ensures, c.new-sourceid.ensures, c.new-forfmid.ensures, c.new-group.ensures) refl;
    }
