use Rattle.std.proofs.Common.{IfOk, map, subst}
use Rattle.std.specs.Prelude.{option_copied}
use Rattle.terms.specs.CommandForms.{no_bypass}
use Rattle.terms.specs.Types.{Bypass, Selection}
use Rattle.smpe_certificate.specs.Certified.{IsCertified}
use Rattle.smpe_certificate.specs.Views.{digest_view}
use Rattle.smpe_answer.proofs.certified.zone_certificate.Goals as goal

pub returns : goal.returns
returns c =
    let zone = c.args.zone.now in
    let related = option_copied c.args.related in
    let inputs = map digest_view c.args.inputs.now in
    subst (λ (chosen : Selection). IfOk c.certificate.result (λ text. IsCertified c.args.global.now zone related chosen
    no_bypass inputs text.items)) c.in_ok-selection.ensures
    (subst (λ (bypass : Bypass). IfOk c.certificate.result (λ text. IsCertified c.args.global.now zone related
    c.in_ok-selection.selection bypass inputs text.items)) c.none-bypass.ensures c.certificate.ensures)
