-- A certificate apart from where its lists are in memory.
use Rattle.std.specs.Prelude.{◌++◌, map}
use Rattle.smpe_certificate.specs.declared.facts.DroppedFact.{DroppedFact}
use Rattle.smpe_certificate.specs.declared.facts.Certificate.{Certificate as StoredCertificate}
use Rattle.smpe_certificate.specs.declared.digest.Digest.{Digest}
use Rattle.smpe_certificate.specs.Facts.{Dropped, Certificate, Input}

abbrev pub dropped_view : DroppedFact → Dropped
dropped_view f = record { id = f.id; kind = f.kind; needed = f.needed; servers = f.servers.items }

abbrev pub certificate_view : StoredCertificate → Certificate
certificate_view c = record {
  ineligible = c.ineligible.items;
  dropped = map dropped_view c.dropped.items;
  kept = c.kept;
  served = c.served.items;
}

abbrev pub digest_view : Digest → Input
digest_view d = record { name = d.name.now ++ d.suffix.now; sha256 = d.sha256 }
