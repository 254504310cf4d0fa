use Rattle.std.proofs.Common.{map}
use Rattle.std.specs.Prelude.{option_copied}
use Rattle.std.proofs.lemmas.Result.{IfOk-weaker}
use Rattle.smpe_certificate.specs.Views.{certificate_view, digest_view}
use Rattle.smpe_certificate.proofs.Certifying.{certified}
use Rattle.smpe_certificate.proofs.certified.certificate.Goals as goal

pub returns : goal.returns
returns c =
    IfOk-weaker c.certificate_text.result _ _ (λ text spelled. certified c.args.global.now c.args.zone.now
    (option_copied c.args.related) c.args.selection.now c.args.bypass.now (map digest_view c.args.inputs.now)
    c.in_ok-candidates.candidates.ids c.in_ok-judged.judged (certificate_view c.in_ok-facts.facts) text.items
    c.in_ok-candidates.ensures.members c.in_ok-judged.ensures.judged c.in_ok-facts.ensures spelled)
    c.certificate_text.ensures
