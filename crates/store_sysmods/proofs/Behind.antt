-- The rows of the items of a list, each behind those before it.
use Rattle.std.proofs.Common.{◌≡◌, ℕ, ◌+◌, ◌<◌, List, [], ◌∷◌, ◌++◌, append-nil, map, filter, length}
use Rattle.std.proofs.Common.{take, not, get_or, refl, sym, ap, ◌∙◌}
use Rattle.std.specs.List.{flat_map, enumerate_from}
use Rattle.std.proofs.lemmas.List.{append_assoc, length-append, take_more}
use Rattle.std.proofs.lemmas.List.Concat.{flat_map_single}
use Rattle.terms.proofs.Lists.{flat_if}
use Rattle.sqlite.specs.Order.{Row}
use Rattle.terms.specs.Types.{Id, Ver}
use Rattle.store_schema.specs.Rows.{ver_row, morever_row, ifreq_row, moreif_row, is_first, numbered_behind}
use Rattle.store_sysmods.specs.Behind.{rows_behind, of_each, of_counted, of_numbered}
use Rattle.store_sysmods.specs.Vers.{first_row}
use Rattle.store_sysmods.specs.MoreVers.{further_row}
use Rattle.store_sysmods.specs.Ifs.{first_ifs}
use Rattle.store_sysmods.specs.MoreIfs.{further_ifs}

-- ---- the same rows as a list tells them

pub each_behind : {X : Type 0} (row : X → Row) (front xs : List X) → rows_behind (of_each row) front xs ≡ map row xs
each_behind row front [] = refl
each_behind row front (x ∷ xs) = ap (λ rows. row x ∷ rows) (each_behind row (front ++ x ∷ []) xs)

pub counted_behind : {X : Type 0} (row : ℕ × X → Row) (front xs : List X)
    → rows_behind (of_counted row) front xs ≡ map row (enumerate_from (length front + 1) xs)
counted_behind row front [] = refl
counted_behind row front (x ∷ xs) =
    ap (λ rows. row (length front + 1, x) ∷ rows) (counted_behind row (front ++ x ∷ []) xs
    ∙ ap (λ n. map row (enumerate_from (n + 1) xs)) (length-append front (x ∷ [])))

pub numbered_rows : (rows : ℕ × Ver → List Row) (front vs : List Ver)
    → rows_behind (of_numbered rows) front vs ≡ flat_map rows (numbered_behind front vs)
numbered_rows rows front [] = refl
numbered_rows rows front (v ∷ vs) =
    ap (λ more. of_numbered rows front v ++ more) (numbered_rows rows (front ++ v ∷ []) vs)

-- ---- the rows of a SYSMOD's ++VERs and of their ++IFs

pub first_rows : (x : Id) (vs : List Ver) → rows_behind (of_numbered (first_row x)) [] vs
    ≡ map (λ (v : ℕ × Ver). ver_row x v.1) (filter is_first (numbered_behind [] vs))
first_rows x vs =
    numbered_rows (first_row x) [] vs ∙ flat_if is_first (λ (v : ℕ × Ver). ver_row x v.1 ∷ []) (numbered_behind [] vs)
    ∙ flat_map_single (λ (v : ℕ × Ver). ver_row x v.1) (filter is_first (numbered_behind [] vs))

pub further_rows : (x : Id) (vs : List Ver) → rows_behind (of_numbered (further_row x)) [] vs
    ≡ map (morever_row x) (filter (λ v. not (is_first v)) (numbered_behind [] vs))
further_rows x vs =
    numbered_rows (further_row x) [] vs
    ∙ flat_if (λ v. not (is_first v)) (λ (v : ℕ × Ver). morever_row x v ∷ []) (numbered_behind [] vs)
    ∙ flat_map_single (morever_row x) (filter (λ v. not (is_first v)) (numbered_behind [] vs))

pub first_if_rows : (x : Id) (vs : List Ver) → rows_behind (of_numbered (first_ifs x)) [] vs
    ≡ flat_map (λ (v : ℕ × Ver). map (ifreq_row x v.1.srel) (enumerate_from 1 v.1.ifs))
    (filter is_first (numbered_behind [] vs))
first_if_rows x vs =
    numbered_rows (first_ifs x) [] vs
    ∙ flat_if is_first (λ (v : ℕ × Ver). map (ifreq_row x v.1.srel) (enumerate_from 1 v.1.ifs)) (numbered_behind [] vs)

pub further_if_rows : (x : Id) (vs : List Ver) → rows_behind (of_numbered (further_ifs x)) [] vs
    ≡ flat_map (λ (v : ℕ × Ver). map (moreif_row x v.1.srel v.0) (enumerate_from 1 v.1.ifs))
    (filter (λ v. not (is_first v)) (numbered_behind [] vs))
further_if_rows x vs =
    numbered_rows (further_ifs x) [] vs ∙ flat_if (λ v. not (is_first v))
    (λ (v : ℕ × Ver). map (moreif_row x v.1.srel v.0) (enumerate_from 1 v.1.ifs)) (numbered_behind [] vs)

-- ---- the loop

module _ {X : Type 0} (rows : List X → X → List Row) where
  behind_both : (front xs ys : List X)
      → rows_behind rows front (xs ++ ys) ≡ rows_behind rows front xs ++ rows_behind rows (front ++ xs) ys
  behind_both front [] ys = ap (λ l. rows_behind rows l ys) (sym (append-nil front))
  behind_both front (x ∷ xs) ys =
      ap (λ more. rows front x ++ more) (behind_both (front ++ x ∷ []) xs ys
      ∙ ap (λ l. rows_behind rows (front ++ x ∷ []) xs ++ rows_behind rows l ys) (append_assoc front (x ∷ []) xs))
      ∙ sym (append_assoc (rows front x) (rows_behind rows (front ++ x ∷ []) xs)
      (rows_behind rows (front ++ x ∷ xs) ys))

  module _ (items : List X) (i : ℕ) (item : X) (within : i < length items) (is : item ≡ get_or items i item) where
    pub one_more : rows_behind rows [] (take i items) ++ rows (take i items) item
        ≡ rows_behind rows [] (take (i + 1) items)
    one_more =
        ap (λ more. rows_behind rows [] (take i items) ++ more) (sym (append-nil (rows (take i items) item)))
        ∙ sym (behind_both [] (take i items) (item ∷ []))
        ∙ ap (λ x. rows_behind rows [] (take i items ++ x ∷ [])) is
        ∙ ap (rows_behind rows []) (sym (take_more items i item within))
