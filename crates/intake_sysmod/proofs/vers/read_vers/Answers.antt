use Rattle.intake_sysmod.proofs.VersMore.{vers_permuted}
use Rattle.intake_sysmod.proofs.vers.read_vers.Goals as goal

pub returns : goal.returns
returns c =
    vers_permuted c.args.sysmod.now.vers.items c.in-Some.vers.items c.in_ok-sort_by_srel.field-0.items
    c.in_ok-sort_by_srel.ensures (rw c.in-Some.is at c.in_ok-vers.ensures)
