use Rattle.std.proofs.Common.{subst, IsTrue}
use Rattle.terms.specs.Lookups.{is_in}
use Rattle.sysmods.specs.Index.{members}
use Rattle.sysmods.proofs.Indexed.{keeps_less}
use Rattle.sysmods.proofs.index.IndexEntry.remove.Goals as goal

pub returns-in-More : goal.returns-in-More
returns-in-More c y other h =
    keeps_less c.in-More.set c.remove.new.self c.args.namer c.remove.ensures.updates y other
    (subst (λ n. IsTrue (is_in (members n) y)) c.in-More.is h)
