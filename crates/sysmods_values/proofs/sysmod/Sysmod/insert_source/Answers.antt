-- Sources stay in order with one more.
use Rattle.std.proofs.lemmas.Cmp.{nat_list_cmp_total}
use Rattle.terms.proofs.Placing.{Rises_with_item}
use Rattle.sysmods_values.proofs.sysmod.Sysmod.insert_source.Goals as goal

pub invariant_of-self-2 : goal.invariant_of-self-2
invariant_of-self-2 c =
    let k = c.self.invariant in
    record {
      sources = rw c.in_ok-insert.ensures.ok (Rises_with_item nat_list_cmp_total (λ t. t) c.self.inside.sources
          c.args.source k.sources);
      changes = k.changes;
      holds = k.holds;
    }
