use Rattle.std.proofs.Common.{rules}
use Rattle.std.proofs.lemmas.List.Sorted.{answers_always}
use Rattle.smpe_summary.proofs.causes.causes_of.Goals as goal

pub returns : goal.returns
returns c = record {
  by_line = c.in_ok-causes.causes.items;
  by_line_are = c.in_ok-causes.ensures;
  same = c.sort_unstable_by_key.ensures.permutation;
  worst_first = c.sort_unstable_by_key.ensures.sorted (λ v. (record { 0 = v.fails }, v.id))
      (answers_always _ _ _ (λ f a r h q. search rules));
}
