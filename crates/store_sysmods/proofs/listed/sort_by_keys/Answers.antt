use Rattle.std.proofs.Common.{IsPermutation, rules}
use Rattle.std.specs.List.Sorted.{IsSortedByKey}
use Rattle.std.proofs.lemmas.List.Sorted.{answers_always, IsPermutation-sym, IsPermutation-trans}
use Rattle.terms.proofs.Permuted.{rises_sorted}
use Rattle.store_schema.proofs.WrittenLists.{rising_same}
use Rattle.store_sysmods.proofs.listed.sort_by_keys.Goals as goal

pub returns-clause-only : goal.returns-clause-only
returns-clause-only g c xs same rises =
    let key = g.T.WholeTable.key_of in
    let items = c.sort_unstable_by_key.new.self.items in
    let up : IsSortedByKey key g.T.Key.Ord.cmp items = c.sort_unstable_by_key.ensures.sorted key
    (answers_always _ _ _ (λ f a r h q. search rules)) in
    let moved : IsPermutation items xs = IsPermutation-trans items c.args.items.items xs
    (IsPermutation-sym _ _ c.sort_unstable_by_key.ensures.permutation) same in
    rising_same g.met.T.Key.Ord.total key items xs moved (rises_sorted g.met.T.Key.Ord.total key items xs moved up
    rises) rises
