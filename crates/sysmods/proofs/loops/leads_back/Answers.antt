use Rattle.std.proofs.Common.{IsTrue, IfOk, ◌↔◌, ap, subst}
use Rattle.terms.specs.Over.{Reaches}
use Rattle.terms.specs.Global.{names_for, with_sysmod}
use Rattle.sysmods.specs.Held.{zone_of}
use Rattle.sysmods.proofs.Turned.{turned}
use Rattle.sysmods.proofs.loops.leads_back.Goals as goal

pub leads_to_from_both_ends-requires : goal.leads_to_from_both_ends-requires
leads_to_from_both_ends-requires c = turned c.args.received.now c.args.sysmod.now c.args.srel c.requires

pub returns : goal.returns
returns c =
    subst (λ x. IfOk c.leads_to_from_both_ends.result (λ found.
    IsTrue found ↔ Reaches (names_for (with_sysmod (zone_of c.args.received.now) c.args.sysmod.now) c.args.srel) x
    x))
    (ap (λ s. s.id) c.sysmod.view_is) c.leads_to_from_both_ends.ensures
