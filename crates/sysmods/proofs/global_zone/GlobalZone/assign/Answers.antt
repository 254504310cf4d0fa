use Rattle.std.proofs.Common.{sym, subst}
use Rattle.terms.specs.Types.{a_global}
use Rattle.terms.specs.Global.{IsGlobal, assign}
use Rattle.terms.proofs.GlobalKept.{assign_kept}
use Rattle.sysmods.proofs.Kept.{kept_either}
use Rattle.sysmods.proofs.global_zone.GlobalZone.assign.Goals as goal

pub invariant_of-self : goal.invariant_of-self
invariant_of-self c =
    let g = a_global c.self.inside.sysmods c.self.inside.holds in
    kept_either (λ new. IsGlobal (a_global new c.self.inside.holds)) c.insert_source.result c.self.inside.sysmods
    (assign g c.args.source c.args.id).sysmods c.insert_source.new.self c.insert_source.ensures.ok
    c.insert_source.ensures.err c.self.invariant
    (assign_kept g c.args.source c.args.id c.self.invariant)

pub invariant_of-self-2 : goal.invariant_of-self-2
invariant_of-self-2 c =
    let g = a_global c.self.inside.sysmods c.self.inside.holds in
    subst (λ new. IsGlobal (a_global new c.self.inside.holds)) (sym c.in_ok-insert_source.ensures.ok)
    (assign_kept g c.args.source c.args.id c.self.invariant)
