use Rattle.std.proofs.Common.{sym, subst}
use Rattle.terms.specs.Types.{a_global}
use Rattle.terms.specs.Global.{IsGlobal}
use Rattle.terms.proofs.GlobalKept.{IsOwned, hold_kept}
use Rattle.sysmods.specs.Lists.{with_hold}
use Rattle.sysmods.proofs.Kept.{kept_either}
use Rattle.sysmods.proofs.global_zone.GlobalZone.hold.Goals as goal

pub invariant_of-self : goal.invariant_of-self
invariant_of-self c =
    let xs = c.self.inside.sysmods in
    let hs = c.self.inside.holds in
    kept_either (λ new. IsGlobal (a_global xs new)) c.put.result hs (with_hold hs c.args.hold) c.put.new.self
    c.put.ensures.ok c.put.ensures.err c.self.invariant
    (hold_kept (a_global xs hs) c.args.hold c.self.invariant
    (subst (λ g. IsOwned g c.args.hold) (sym c.self.view_is) c.requires))
