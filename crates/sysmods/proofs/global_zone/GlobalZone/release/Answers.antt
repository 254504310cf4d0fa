use Rattle.std.proofs.Common.{filter, not}
use Rattle.terms.specs.Types.{a_global}
use Rattle.terms.specs.Global.{IsGlobal, has_key}
use Rattle.terms.proofs.GlobalKept.{without_hold_kept}
use Rattle.sysmods.proofs.Kept.{kept_either}
use Rattle.sysmods.proofs.global_zone.GlobalZone.release.Goals as goal

pub invariant_of-self : goal.invariant_of-self
invariant_of-self c =
    let xs = c.self.inside.sysmods in
    let hs = c.self.inside.holds in
    kept_either (λ new. IsGlobal (a_global xs new)) c.release.result hs
    (filter (λ h. not (has_key c.args.id c.args.kind c.args.reason h)) hs) c.release.new.self c.release.ensures.ok
    c.release.ensures.err c.self.invariant
    (without_hold_kept (a_global xs hs) c.args.id c.args.kind c.args.reason c.self.invariant)
