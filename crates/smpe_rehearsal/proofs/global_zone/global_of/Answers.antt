use Rattle.smpe_rehearsal.proofs.global_zone.global_of.Goals as goal

pub returns-in-Empty : goal.returns-in-Empty
returns-in-Empty c = rw c.in-Empty.is c.new.ensures.sysmods

pub returns-in-Copied : goal.returns-in-Copied
returns-in-Copied c = rw c.in-Copied.is c.load_global_of_copy.ensures
