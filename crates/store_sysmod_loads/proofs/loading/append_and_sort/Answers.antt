use Rattle.std.proofs.Common.{IsPermutation, sym, subst}
use Rattle.store_sysmod_loads.proofs.loading.append_and_sort.Goals as goal

pub returns-clause-only : goal.returns-clause-only
returns-clause-only g c xs same rises =
    c.sort_by_keys.ensures.only xs (subst (λ items. IsPermutation items xs) (sym c.in_ok-append.ensures.items) same)
    rises
