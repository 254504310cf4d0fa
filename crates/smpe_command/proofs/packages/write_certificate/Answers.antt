use Rattle.std.proofs.Common.{List, Option, Some, Vec, map, inr, subst}
use Rattle.std.specs.declared.alloc.Global.{Global as AnyGlobal}
use Rattle.smpe_certificate.specs.Views.{digest_view}
use Rattle.smpe_answer.specs.Asked.{HasCertificate}
use Rattle.smpe_command.specs.Packages.{Writes}
use Rattle.smpe_command.proofs.packages.write_certificate.Goals as goal

pub returns-in-Ok-Some : goal.returns-in-Ok-Some
returns-in-Ok-Some g c =
    let source = c.args.settled.now.prepared.source in
    let text = c.in-Ok-Some.text in
    let inputs = c.args.settled.now.inputs in
    let certified : HasCertificate c.args.zones.now source (map digest_view inputs.items) (Some text) =
    subst (λ (inputs : List _). HasCertificate c.args.zones.now source (map digest_view inputs) (Some text))
    c.as_slice.ensures.value
    (subst (λ (found : Option (Vec _ AnyGlobal)). HasCertificate c.args.zones.now source
    (map digest_view c.as_slice.result.now) found) c.in-Ok-Some.field-0-is c.in-Ok-Some.ensures) in
    inr (inr (
      text,
      certified,
      subst (λ (bytes : List _). Writes g.H.Host c.args.host.now c.args.name.now bytes c.write_text.result
          c.write_text.new.host) c.as_slice-in-Ok-Some.ensures.value c.write_text.ensures,
    ))
