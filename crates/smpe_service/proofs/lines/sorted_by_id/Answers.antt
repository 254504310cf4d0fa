use Rattle.std.proofs.Common.{rules}
use Rattle.std.proofs.lemmas.List.Sorted.{answers_always, IsPermutation-map}
use Rattle.smpe_service.specs.Statuses.{id_and_status}
use Rattle.smpe_service.proofs.ById.{sorted_map}
use Rattle.smpe_service.proofs.lines.sorted_by_id.Goals as goal

pub returns : goal.returns
returns c =
    let old = c.args.statuses.items in
    let new = c.sort_unstable_by_key.new.self.items in
    record {
      same = IsPermutation-map id_and_status old new c.sort_unstable_by_key.ensures.permutation;
      sorted = sorted_map new (c.sort_unstable_by_key.ensures.sorted (λ p. p.0)
          (answers_always _ _ _ (λ f a r h q. search rules)));
    }
