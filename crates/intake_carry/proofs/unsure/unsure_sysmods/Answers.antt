use Rattle.std.proofs.Common.{map, subst, sym}
use Rattle.std.proofs.lemmas.Result.{IfOk-weaker}
use Rattle.intake_sysmod.specs.Users.{run_of}
use Rattle.intake_carry.specs.Unsure.{AreLeftOutOf}
use Rattle.intake_carry.proofs.UnsureNames.{all_unsure}
use Rattle.intake_carry.proofs.unsure.unsure_sysmods.Goals as goal

pub unsure_among-requires : goal.unsure_among-requires
unsure_among-requires c = c.in_ok-users.ensures

pub returns : goal.returns
returns c =
    let run = run_of c.args.files.now in
    let items = c.args.items.now in
    IfOk-weaker c.unsure_among.result _ _ (λ unsure named.
    all_unsure run items (map (λ s. s.now) c.as_slice-left.result.now) unsure.items
    (subst (λ l. AreLeftOutOf items run (map (λ s. s.now) l)) (sym c.as_slice-left.ensures.value)
    (c.in_ok-gathered.ensures items c.in_ok-ids.ensures)) named) c.unsure_among.ensures
