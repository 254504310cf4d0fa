-- Ids with what they have, sorted by their ids, of which no two are the same.
use Rattle.std.proofs.Common.{◌≡◌, ◌≢◌, ◌+◌, ◌<◌, false, IsPermutation, List, length, map, get_or, arith}
use Rattle.std.specs.Prelude.{AllPairs}
use Rattle.std.specs.List.Sorted.{IsSortedByKey}
use Rattle.std.specs.Ordering.{is_lt, nat_cmp}
use Rattle.std.specs.Cmp.Lexicographic.{slice_cmp}
use Rattle.std.proofs.lemmas.Cmp.{nat_list_cmp_total}
use Rattle.std.proofs.lemmas.List.{get_or-map, length-map}
use Rattle.std.proofs.lemmas.List.Sorted.{IsPermutation-map, length_permutation, Contains-permutation, ranks_by}
use Rattle.std.proofs.lemmas.List.Sorted.{sorted_far}
use Rattle.std.proofs.lemmas.Map.Lookups.{exact_bytes}
use Rattle.terms.proofs.Orderings.{is_lt_from_turned}
use Rattle.terms.specs.Types.{Id}
use Rattle.terms.specs.Rising.{Rises}
use Rattle.terms.proofs.Apart.{AreApart, apart_from_length}
use Rattle.terms.proofs.Pairs.{pairs_unmap}
use Rattle.report.specs.declared.outcome.Status as reported
use Rattle.report.specs.declared.outcome.Status.TheVariants.{Applied}
use Rattle.smpe_service.specs.Statuses.{id_and_status}

-- a list that is sorted by its ids is so however its statuses are seen
pub sorted_map : (xs : List (Id × reported.Status)) → IsSortedByKey (λ p. p.0) (slice_cmp nat_cmp) xs
    → IsSortedByKey (λ p. p.0) (slice_cmp nat_cmp) (map id_and_status xs)
sorted_map xs sorted = λ k e low below.
    let d : Id × reported.Status = (e.0, Applied) in
    let short : k + 1 < length xs = let n = length-map xs id_and_status in omega arith in
    rw (get_or-map id_and_status xs (k + 1) d e short, get_or-map id_and_status xs k d e (omega arith))
    (sorted k d low short)

-- sorted by ids without doubles, a list rises
pub rises_by_id : {V : Type 0} (all found : List (Id × V)) → IsPermutation all found
    → IsSortedByKey (λ p. p.0) (slice_cmp nat_cmp) found
    → AreApart (map (λ p. p.0) all) → Rises (slice_cmp nat_cmp) (λ p. p.0) found
rises_by_id {V = V} all found same sorted apart = λ i j d less within.
    let x = get_or found i d in
    let y = get_or found j d in
    let far : is_lt (slice_cmp nat_cmp y.0 x.0) ≡ false =
    sorted_far (λ p q. is_lt (slice_cmp nat_cmp p.0 q.0)) (ranks_by nat_list_cmp_total (λ (p : Id × V). p.0)) found
    sorted i j d (omega arith) within in
    is_lt_from_turned (slice_cmp nat_cmp x.0 y.0) (slice_cmp nat_cmp y.0 x.0) (nat_list_cmp_total.antisymm x.0 y.0) far
    (λ tie. other i j d less within (exact_bytes x.0 y.0 tie))
  where
    permuted : IsPermutation (map (λ p. p.0) all) (map (λ p. p.0) found)
    permuted = IsPermutation-map (λ p. p.0) all found same

    found_apart : AreApart (map (λ p. p.0) found)
    found_apart =
        apart_from_length (map (λ p. p.0) found) (map (λ p. p.0) all) apart
        (λ z h. Contains-permutation (map (λ p. p.0) all) (map (λ p. p.0) found) z permuted h)
        (let e = length_permutation (map (λ p. p.0) all) (map (λ p. p.0) found) permuted in omega arith)

    other : AllPairs (λ p q. p.0 ≢ q.0) found
    other = pairs_unmap (λ p q. p.0 ≢ q.0) (λ a b. a ≢ b) (λ p. p.0) (λ p q h. h) found found_apart
