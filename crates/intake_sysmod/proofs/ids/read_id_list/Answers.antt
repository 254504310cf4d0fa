use Rattle.intake_sysmod.proofs.SameIds.{same_ids}
use Rattle.intake_sysmod.proofs.ids.read_id_list.Goals as goal

pub returns-in-Some : goal.returns-in-Some
returns-in-Some c =
    same_ids c.args.stated.now c.in-Some.ids.items c.from_vec.result (rw c.in-Some.is at c.in_ok-ids.ensures)
    c.from_vec.ensures.members
