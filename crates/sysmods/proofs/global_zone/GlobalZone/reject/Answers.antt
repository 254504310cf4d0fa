use Rattle.terms.specs.Types.{a_global}
use Rattle.terms.proofs.GlobalKept.{without_sysmod_kept}
use Rattle.sysmods.proofs.global_zone.GlobalZone.reject.Goals as goal

pub invariant_of-self : goal.invariant_of-self
invariant_of-self c =
    rw (c.remove.ensures.after, c.drop_internal.ensures) (without_sysmod_kept
    (a_global c.self.inside.sysmods c.self.inside.holds) c.args.id c.self.invariant)
