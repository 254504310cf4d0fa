use Rattle.std.proofs.Common.{◌∙◌, ap, ap₂}
use Rattle.std.proofs.lemmas.Result.{IfOk-weaker}
use Rattle.terms.specs.Choice.{counting}
use Rattle.smpe_verify.specs.FirstBreach.{first_breach}
use Rattle.smpe_verify.proofs.closed.find_breach.Goals as goal

pub returns : goal.returns
returns c =
    let g = c.args.global.now in
    let zone = c.args.zone.now in
    IfOk-weaker c.find_breach_by_vers.result _ _
    (λ breach is. is ∙ ap₂ (λ h ch. first_breach h ch zone) c.in_ok-vers.ensures.global
    (c.in_ok-vers.ensures.counting ∙ ap (counting g zone) c.new-no_candidates.ensures)) c.find_breach_by_vers.ensures
