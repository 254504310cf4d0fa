-- Ids that rise, numbered one after the other.
use Rattle.std.proofs.Common.{◌≡◌, ◌∙◌, ℕ, ◌<◌, ◌+◌, false, List, [], ◌∷◌, ◌++◌, length, Some, ap, sym, arith}
use Rattle.std.proofs.Common.{take, get_or, slice_get, if◌then◌else◌}
use Rattle.std.specs.List.{list_any}
use Rattle.std.specs.Str.{bytes_eq}
use Rattle.std.proofs.lemmas.Bool.{false_from_ne_true}
use Rattle.std.proofs.lemmas.List.{get_or-take, length-take-le}
use Rattle.std.proofs.lemmas.Option.{slice_get_within, slice_get-get_or, get_or_from_slice_get}
use Rattle.indexmap.specs.IndexSet.{insert_key}
use Rattle.terms.proofs.Ids.{Contains_from_is_in}
use Rattle.terms.proofs.Lists.{front_more}
use Rattle.terms.proofs.Places.{found_at}
use Rattle.terms.specs.Types.{Id}
use Rattle.terms.specs.Lookups.{IsRising}
use Rattle.judge_system.proofs.CandidateIds.{one_number}

-- none of those before it is the next one
is_new : (ids : List Id) → IsRising ids → (i : ℕ) (x : Id) → slice_get ids i ≡ Some x
    → list_any (bytes_eq x) (take i ids) ≡ false
is_new ids rising i x at =
    false_from_ne_true (list_any (bytes_eq x) (take i ids)) (λ seen.
    let there = found_at (take i ids) x (Contains_from_is_in (take i ids) x seen) in
    let m = there.0 in
    let within = slice_get_within (take i ids) m x there.1 in
    let last = slice_get_within ids i x at in
    let below : m < i = omega (arith, within, length-take-le i ids (omega (arith, last))) in
    let same = sym (get_or-take i ids m [] below) ∙ get_or_from_slice_get (take i ids) m x [] there.1 in
    let at_m : slice_get ids m ≡ Some x =
    slice_get-get_or ids m [] (omega (arith, below, last)) ∙ ap (λ v. Some v) same in
    let one = one_number ids rising m i x at_m at in
    absurd (omega (arith, one, below)))

-- the next one goes behind them
pub number_next : (ids : List Id) → IsRising ids → (i : ℕ) (x : Id) (old new : List Id) → i < length ids
    → x ≡ get_or ids i x → new ≡ insert_key bytes_eq old x → old ≡ take i ids → new ≡ take (i + 1) ids
number_next ids rising i x old new below at inserted was =
    inserted
    ∙ ap (λ ks. insert_key bytes_eq ks x) was
    ∙ ap (λ b. if b then take i ids else take i ids ++ x ∷ [])
    (is_new ids rising i x (slice_get-get_or ids i x below ∙ ap (λ v. Some v) (sym at)))
    ∙ sym (front_more ids i x below at)
