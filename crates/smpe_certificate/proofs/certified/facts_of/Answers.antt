use Rattle.smpe_certificate.proofs.certified.facts_of.Goals as goal

pub returns : goal.returns
returns c = record {
  flags = c.in_ok-kept.field-0.kept.items;
  drops = c.in_ok-kept.field-0.dropped.items;
  eliminates = c.in_ok-kept.ensures;
  ineligible = rw (c.as_slice-ids.ensures.keys, c.as_slice.ensures.value) at c.in_ok-ineligible_facts.ensures;
  dropped = rw c.as_slice-2.ensures.value at c.in_ok-dropped_facts.ensures;
  kept = rw (c.as_slice-ids.ensures.keys, c.as_slice-3.ensures.value) at c.in_ok-kept_ids.ensures.members;
  rising = c.in_ok-kept_ids.ensures.rising;
  served = rw c.as_slice-4.ensures.value at c.in_ok-served_facts.ensures;
}
