use Rattle.std.proofs.Common.{◌≡◌, true, false, IsPermutation, rules}
use Rattle.std.specs.List.Sorted.{IsSortedByKey}
use Rattle.std.proofs.lemmas.List.Sorted.{answers_always, IsPermutation-sym, IsPermutation-trans}
use Rattle.terms.proofs.Permuted.{rises_sorted}
use Rattle.sorted.proofs.table.Table.from_vec.Goals as goal

pub returns-then-not-are_rising-clause-none : goal.returns-then-not-are_rising-clause-none
returns-then-not-are_rising-clause-none g c other same rises =
    let key = g.T.Keyed.key_of in
    let sorted = c.sort_unstable_by_key.new.self.items in
    let up : IsSortedByKey key g.T.Key.Ord.cmp sorted = c.sort_unstable_by_key.ensures.sorted key
    (answers_always _ _ _ (λ f a r h q. search rules)) in
    let moved : IsPermutation sorted other = IsPermutation-trans sorted c.args.items.items other
    (IsPermutation-sym _ _ c.sort_unstable_by_key.ensures.permutation) same in
    let no : c.are_rising.result ≡ false = c.if-not-are_rising.true in
    let yes : c.are_rising.result ≡ true = c.are_rising.ensures.1
    (rw c.as_slice.ensures.value (rises_sorted g.met.T.Key.Ord.total key sorted other moved up rises)) in
    absurd cc
