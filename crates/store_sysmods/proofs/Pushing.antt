-- Rows that are pushed behind others.
use Rattle.std.proofs.Common.{◌≡◌, ◌≢◌, not, ℕ, ◌+◌, ◌<◌, ◌==◌, if◌then◌else◌, List, [], ◌∷◌, ◌++◌, append-nil, map}
use Rattle.std.proofs.Common.{length, take, get_or, sym, ap, ap₂, ◌∙◌}
use Rattle.std.specs.List.{flat_map}
use Rattle.std.proofs.lemmas.List.{append_assoc, map-append}
use Rattle.std.proofs.lemmas.Grind.{flat_map-append}
use Rattle.sqlite.specs.Order.{Row}
use Rattle.terms.specs.Types.{Sysmod}
use Rattle.store_rows.specs.Rows.{as_bound}
use Rattle.store_schema.proofs.Numbered.{other_one}
use Rattle.store_sysmods.specs.Behind.{rows_behind}
use Rattle.store_sysmods.proofs.Behind.{one_more}

-- a row that is bound as these, the only one or none
pub one_pushed : (olds news : List Row) (row : Row) (rows : List Row) → news ≡ olds ++ row ∷ []
    → as_bound row ∷ [] ≡ rows → map as_bound news ≡ map as_bound olds ++ rows
one_pushed olds news row rows is bound =
    ap (map as_bound) is ∙ map-append as_bound olds (row ∷ []) ∙ ap (λ l. map as_bound olds ++ l) bound

pub none_pushed : (olds rows : List Row) → [] ≡ rows → map as_bound olds ≡ map as_bound olds ++ rows
none_pushed olds rows is = sym (append-nil (map as_bound olds)) ∙ ap (λ l. map as_bound olds ++ l) is

pub pushed_as : (olds : List Row) {news xs ys : List Row} → xs ≡ ys → news ≡ olds ++ xs → news ≡ olds ++ ys
pushed_as olds is pushed = pushed ∙ ap (λ l. olds ++ l) is

-- an item more
pub more_pushed : {X : Type 0} (rows : List X → X → List Row) (items : List X) (i : ℕ) (item : X) → i < length items
    → item ≡ get_or items i item → (olds mids news : List Row) → mids ≡ olds ++ rows_behind rows [] (take i items)
    → news ≡ mids ++ rows (take i items) item → news ≡ olds ++ rows_behind rows [] (take (i + 1) items)
more_pushed rows items i item within is olds mids news before more =
    more ∙ ap (λ l. l ++ rows (take i items) item) before
    ∙ append_assoc olds (rows_behind rows [] (take i items)) (rows (take i items) item)
    ∙ ap (λ l. olds ++ l) (one_more rows items i item within is)

-- rows of SYSMODs, and those of one more
pub flat_pushed : (f : Sysmod → List Row) (ss : List Sysmod) (s : Sysmod) {olds news : List Row} → olds ≡ flat_map f ss
    → news ≡ olds ++ f s → news ≡ flat_map f (ss ++ s ∷ [])
flat_pushed f ss s before more =
    more ∙ ap₂ ◌++◌ before (sym (append-nil (f s))) ∙ sym (flat_map-append f ss (s ∷ []))

-- the rows of a ++VER of this number, that is the first of its SREL, or that is not
module _ {X : Type 0} (rows : List X) (n k : ℕ) (same : n ≡ k) where
  pub some_first : n ≡ 1 → rows ≡ (if k == 1 then rows else [])
  some_first is = ap (λ m. if m == 1 then rows else []) (sym is ∙ same)

  pub none_first : n ≢ 1 → [] ≡ (if k == 1 then rows else [])
  none_first other = sym (ap (λ b. if b then rows else []) (other_one k (λ is. other (same ∙ is))))

  pub some_further : n ≢ 1 → rows ≡ (if not (k == 1) then rows else [])
  some_further other = sym (ap (λ b. if not b then rows else []) (other_one k (λ is. other (same ∙ is))))

  pub none_further : n ≡ 1 → [] ≡ (if not (k == 1) then rows else [])
  none_further is = ap (λ m. if not (m == 1) then rows else []) (sym is ∙ same)
