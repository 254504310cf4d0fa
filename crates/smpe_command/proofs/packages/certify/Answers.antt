use Rattle.std.proofs.Common.{map, subst}
use Rattle.smpe_certificate.specs.Views.{digest_view}
use Rattle.smpe_command.specs.Packages.{WritesCertificate}
use Rattle.smpe_command.proofs.packages.certify.Goals as goal

pub returns-in-Some : goal.returns-in-Some
returns-in-Some g c =
    let s = c.args.settled.now in
    rw c.in-Some.is (subst (λ name. WritesCertificate g.H.Host c.args.host.now c.args.zones.now s.prepared.source
    (map digest_view s.inputs.items) name c.write_certificate.result c.write_certificate.new.host)
    c.as_str.ensures.value c.write_certificate.ensures)
