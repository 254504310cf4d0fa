-- A file's bytes in chunks of 80.
use Rattle.std.proofs.Common.{◌≡◌, ◌≤◌, ◌<◌, ◌+◌, ◌*◌, ◌/◌, ◌%◌, ℕ, zero, suc, List, ◌++◌, length, take}
use Rattle.std.proofs.Common.{drop, get_or, refl, sym, ◌∙◌, ap, subst, arith}
use Rattle.std.proofs.Math.Seq.{take-add}
use Rattle.std.proofs.lemmas.List.{length-drop, length-take-le, take_all, take-take, get_or-take}
use Rattle.std.proofs.lemmas.List.Elements.{All-nil, All-cons, All-take, All-drop}
use Rattle.std.specs.List.{flat_map, All}
use Rattle.std.specs.Simd.{first_chunks}
use Rattle.terms.specs.Records.{IsPrintable, IsRecord, HasRecords, IsRecFault, ShortRecord, BadByte}

abbrev joined_chunks : ℕ → List ℕ → List ℕ
joined_chunks k bytes = flat_map (λ r. r) (first_chunks 80 k bytes)

-- the chunks joined again
pub flat_chunks : (k : ℕ) (bytes : List ℕ) → k * 80 ≤ length bytes → joined_chunks k bytes ≡ take (k * 80) bytes
flat_chunks zero bytes within = refl
flat_chunks (suc k) bytes within =
    let more : k * 80 ≤ length (drop 80 bytes) = omega (arith, length-drop 80 bytes) in
    let sum : suc k * 80 ≡ 80 + k * 80 = omega arith in
    ap (λ rest. take 80 bytes ++ rest) (flat_chunks k (drop 80 bytes) more) ∙ sym (take-add 80 (k * 80) bytes)
    ∙ sym (ap (λ n. take n bytes) sum)

-- printable bytes give records
chunks_are_records : (k : ℕ) (bytes : List ℕ) → k * 80 ≤ length bytes → All IsPrintable bytes
    → All IsRecord (first_chunks 80 k bytes)
chunks_are_records zero bytes within printable = All-nil IsRecord
chunks_are_records (suc k) bytes within printable =
    let more : k * 80 ≤ length (drop 80 bytes) = omega (arith, length-drop 80 bytes) in
    All-cons IsRecord (take 80 bytes) (first_chunks 80 k (drop 80 bytes))
    (length-take-le 80 bytes (omega arith), All-take IsPrintable 80 bytes printable)
    (chunks_are_records k (drop 80 bytes) more (All-drop IsPrintable 80 bytes printable))

pub whole_file : (bytes : List ℕ) → length bytes % 80 ≡ 0 → All IsPrintable (joined_chunks (length bytes / 80) bytes)
    → HasRecords bytes (first_chunks 80 (length bytes / 80) bytes)
whole_file bytes whole printable =
    let flat = flat_chunks (length bytes / 80) bytes (omega arith)
    ∙ take_all (length bytes / 80 * 80) bytes (omega arith) in
    record {
      bytes_are = sym flat;
      each = chunks_are_records (length bytes / 80) bytes (omega arith) (subst (All IsPrintable) flat printable);
    }

pub whole_part : (bytes : List ℕ) (all : List (List ℕ)) (flat : List ℕ)
    → all ≡ first_chunks 80 (length bytes / 80) bytes → flat ≡ flat_map (λ r. r) all
    → flat ≡ take (length bytes / 80 * 80) bytes
whole_part bytes all flat all_are flat_is = flat_is ∙ ap (flat_map (λ r. r)) all_are
    ∙ flat_chunks (length bytes / 80) bytes (omega arith)

pub bad_byte : (bytes flat : List ℕ) (i : ℕ) → flat ≡ take (length bytes / 80 * 80) bytes → i < length flat
    → All IsPrintable (take i flat) → (IsPrintable (get_or flat i 0) → ⊥)
    → IsRecFault bytes (BadByte (i / 80 + 1) (i % 80 + 1))
bad_byte bytes flat i flat_is below printable bad =
    let within = length-take-le (length bytes / 80 * 80) bytes (omega arith) in
    let lower : i < length bytes / 80 * 80 = omega (arith, within, ap length flat_is) in
    let lower' : i ≤ length bytes / 80 * 80 = omega arith in
    let at = ap (λ bs. get_or bs i 0) flat_is ∙ get_or-take (length bytes / 80 * 80) bytes i 0 lower in
    let front = ap (take i) flat_is ∙ take-take i (length bytes / 80 * 80) bytes lower' in
    (i, lower, subst (λ b. IsPrintable b → ⊥) at bad, subst (All IsPrintable) front printable, refl, refl)

pub cut_short : (bytes flat : List ℕ) (all : List (List ℕ)) (i : ℕ) → flat ≡ take (length bytes / 80 * 80) bytes
    → All IsPrintable (take i flat) → length flat ≤ i → (length bytes % 80 ≡ 0 → ⊥) → length all ≡ length bytes / 80
    → IsRecFault bytes (ShortRecord (length all + 1))
cut_short bytes flat all i flat_is printable over rest count =
    (rest, subst (All IsPrintable) (take_all i flat over ∙ flat_is) printable, ap (λ n. n + 1) count)

pub good_file : (bytes flat : List ℕ) (all : List (List ℕ)) (i : ℕ) → all ≡ first_chunks 80 (length bytes / 80) bytes
    → flat ≡ flat_map (λ r. r) all → All IsPrintable (take i flat) → length flat ≤ i → length bytes % 80 ≡ 0
    → HasRecords bytes all
good_file bytes flat all i all_are flat_is printable over whole =
    let printable' = subst (All IsPrintable) (take_all i flat over ∙ flat_is ∙ ap (flat_map (λ r. r)) all_are) printable
    in
    subst (HasRecords bytes) (sym all_are) (whole_file bytes whole printable')
