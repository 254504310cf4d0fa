use Rattle.std.proofs.Common.{◌∙◌, arith, refl, subst}
use Rattle.terms.specs.Beside.{Beside}
use Rattle.terms.proofs.BesideLists.{beside_next, beside_through}
use Rattle.zones.specs.Scopes.{setting_of}
use Rattle.why_verdict.specs.Conflicts.{IsPartner}
use Rattle.why_verdict.proofs.conflicts.partners.Goals as goal

pub loop-other-preserved : goal.loop-other-preserved
loop-other-preserved c =
    beside_next (λ n y p. IsPartner (setting_of c.args.scope.now) c.args.id y p) c.as_slice-other-items.result.now
    c.loop-other.partners.items c.push.new.self.items c.loop-other.other-index c.other-item.result _ (omega arith)
    c.other-item.is c.in_ok-push.ensures.items (refl, c.in_ok-apart.ensures) c.loop-other.invariant

pub returns : goal.returns
returns c =
    subst (λ ys. Beside (λ n y p. IsPartner (setting_of c.args.scope.now) c.args.id y p) ys c.loop-other.partners.items)
    (c.as_slice-other-items.ensures.value ∙ c.in_ok-others.ensures)
    (beside_through (λ n y p. IsPartner (setting_of c.args.scope.now) c.args.id y p) c.as_slice-other-items.result.now
    c.loop-other.partners.items c.loop-other.other-index (omega arith) c.loop-other.invariant)
