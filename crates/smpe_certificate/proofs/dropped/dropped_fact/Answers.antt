use Rattle.smpe_certificate.proofs.Stating.{stated_at}
use Rattle.smpe_certificate.proofs.dropped.dropped_fact.Goals as goal

pub returns : goal.returns
returns c = record {
  id = rw c.as_slice-2.ensures.keys at c.item_at-id.ensures;
  need = stated_at c.args.judged.now.needs.items c.args.dropped.need c.item_at-stated.result
      (rw c.as_slice.ensures.value at c.item_at-stated.ensures);
  servers = c.in_ok-servers.ensures;
}
