use Rattle.std.proofs.Common.{◌≡◌, Option, map, subst, rules}
use Rattle.std.specs.Prelude.{option_copied}
use Rattle.terms.specs.CommandForms.{no_bypass}
use Rattle.terms.specs.Types.{Zone}
use Rattle.smpe_certificate.specs.Certified.{IsCertified}
use Rattle.smpe_certificate.specs.Views.{digest_view}
use Rattle.smpe_answer.specs.Asked.{package_selection}
use Rattle.smpe_answer.proofs.certified.package_certificate.Goals as goal

pub returns-in_default : goal.returns-in_default
returns-in_default c = c.in_default.is

pub returns : goal.returns
returns c =
    let zones = c.args.zones.now in
    let related : option_copied c.as_ref-related.result ≡ zones.related = search rules in (
      c.in-Some.zone,
      c.in-Some.is,
      subst (λ (related : Option Zone). IsCertified zones.global c.in-Some.zone related
          (package_selection c.args.source) no_bypass (map digest_view c.args.inputs.now) c.in_ok-text.text.items)
          related c.in_ok-text.ensures,
    )
