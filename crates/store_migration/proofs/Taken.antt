-- What the tables hold once all is moved.
use Rattle.std.proofs.Common.{◌≡◌, ◌==◌, ℕ, ℤ, pos, List, [], ◌∷◌, ◌++◌, map, fold, false, if◌then◌else◌, codes}
use Rattle.std.proofs.Common.{IsPermutation, refl, sym, ap, subst, ◌∙◌, append-nil, drop}
use Rattle.std.specs.List.{flat_map, AllByRecursion}
use Rattle.std.proofs.lemmas.List.{append_assoc}
use Rattle.std.proofs.lemmas.List.Sorted.{IsPermutation-refl, IsPermutation-sym, IsPermutation-trans}
use Rattle.std.proofs.lemmas.List.Sorted.{IsPermutation-middle, IsPermutation-append_left, IsPermutation-append_right}
use Rattle.std.proofs.lemmas.List.Sorted.{IsPermutation-append_comm}
use Rattle.terms.proofs.Each.{recursion_append}
use Rattle.terms.proofs.TextOrder.{same_itself}
use Rattle.sqlite.specs.declared.types.Value.TheVariants.{Int, Text}
use Rattle.sqlite.specs.Effect.{Database}
use Rattle.sqlite.specs.Order.{Row}
use Rattle.sqlite.specs.Table.{Table}
use Rattle.terms.specs.Types.{Text as Word, Id, Sysmod}
use Rattle.store_rows.specs.Rows.{Contents, HasContents, in_place, with_row}
use Rattle.store_rows.proofs.ContentsLemmas.{permuted}
use Rattle.store_schema.specs.declared.schema.Schema.{Schema}
use Rattle.store_schema.specs.declared.schema.Schema.TheVariants.{First, Second, Third}
use Rattle.store_schema.specs.Create.{with_new}
use Rattle.store_schema.specs.Earlier.{IsOfEarlier, StandsUnder, missing_tables, tables_under}
use Rattle.store_schema.specs.Inventory.{Inventory, IsInventory}
use Rattle.store_schema.specs.Rows.{setting_row, number_row, source_row, sources_of, morevers_of, moreifs_of}
use Rattle.store_schema.specs.Rows.{chosen_of}
use Rattle.store_schema.specs.Stands.{StandsFor, rows_of}
use Rattle.store_schema.specs.Tables.{store_schema}
use Rattle.store_schema.proofs.Singles.{no_morevers, no_moreifs, no_chosen}
use Rattle.store_schema.proofs.UnderEach.{rows_under}
use Rattle.store_migration.specs.Moved.{head_of, bare_row, with_source, with_moved, with_number}
use Rattle.store_migration.specs.TakenOver.{heads_under}
use Rattle.store_migration.specs.declared.head.Head.{Head}
use Rattle.store_migration.proofs.Emptied.{begins, emptied, all_emptied}

-- ---- table by table

sources_leave : (x : Id) (names : List Word) (c : Contents) (t : ℕ) → (t == 18) ≡ false
    → fold (with_source x) c names t ≡ c t
sources_leave x [] c t away = refl
sources_leave x (n ∷ names) c t away =
    sources_leave x names (with_source x c n) t away
    ∙ ap (λ b. if b then with_row (source_row x n) (c t) else c t) away

moving_leaves : (heads : List Head) (c : Contents) (t : ℕ) → (t == 2) ≡ false → (t == 18) ≡ false
    → fold with_moved c heads t ≡ c t
moving_leaves [] c t away far = refl
moving_leaves (h ∷ heads) c t away far =
    let mid = fold (with_source h.id) c h.sources in
    moving_leaves heads (with_moved c h) t away far
    ∙ (ap (λ b. if b then in_place (Text h.id ∷ []) (bare_row h) (mid t) else mid t) away
    ∙ sources_leave h.id h.sources c t far)

moving_empties : (heads : List Head) (c : Contents) → fold with_moved c heads 2 ≡ emptied heads (c 2)
moving_empties [] c = refl
moving_empties (h ∷ heads) c =
    moving_empties heads (with_moved c h)
    ∙ ap (λ rows. emptied heads (in_place (Text h.id ∷ []) (bare_row h) rows))
    (sources_leave h.id h.sources c 2 refl)

abbrev with_one : Id → List Row → Word → List Row
with_one x rows name = source_row x name ∷ rows

-- the rows, and those of the sources of these SYSMODs
abbrev added : List Head → List Row → List Row
added [] rows = rows
added (h ∷ heads) rows = added heads (fold (with_one h.id) rows h.sources)

sources_add : (x : Id) (names : List Word) (c : Contents)
    → fold (with_source x) c names 18 ≡ fold (with_one x) (c 18) names
sources_add x [] c = refl
sources_add x (n ∷ names) c = sources_add x names (with_source x c n)

moving_adds : (heads : List Head) (c : Contents) → fold with_moved c heads 18 ≡ added heads (c 18)
moving_adds [] c = refl
moving_adds (h ∷ heads) c = moving_adds heads (with_moved c h) ∙ ap (added heads) (sources_add h.id h.sources c)

ones_are : (x : Id) (names : List Word) (rows : List Row)
    → IsPermutation (map (source_row x) names ++ rows) (fold (with_one x) rows names)
ones_are x [] rows = IsPermutation-refl rows
ones_are x (n ∷ names) rows =
    IsPermutation-trans _ _ _
    (IsPermutation-sym _ _ (IsPermutation-middle (map (source_row x) names) (source_row x n) rows))
    (ones_are x names (source_row x n ∷ rows))

added_are : (ss : List Sysmod) (rows : List Row)
    → IsPermutation (flat_map sources_of ss ++ rows) (added (map head_of ss) rows)
added_are [] rows = IsPermutation-refl rows
added_are (s ∷ ss) rows =
    let own = sources_of s in
    let rest = flat_map sources_of ss in
    let turned : IsPermutation ((own ++ rest) ++ rows) (rest ++ (own ++ rows)) =
    subst (IsPermutation ((own ++ rest) ++ rows)) (append_assoc rest own rows)
    (IsPermutation-append_left rows (own ++ rest) (rest ++ own) (IsPermutation-append_comm own rest)) in
    IsPermutation-trans _ _ _ turned
    (IsPermutation-trans _ _ _ (IsPermutation-append_right rest _ _ (ones_are s.id s.sources rows))
    (added_are ss (fold (with_one s.id) rows s.sources)))

-- ---- under each schema

-- the rows of its tables, and none in those that it lacks
abbrev pub made_under : Schema → Inventory → Contents
made_under r i = with_new (missing_tables r) (rows_under r i)

-- ---- all tables

same_rows : {xs ys : List Row} → xs ≡ ys → IsPermutation xs ys
same_rows {xs} e = subst (IsPermutation xs) e (IsPermutation-refl xs)

numbered : (n : ℤ) → in_place (Text (codes "schema") ∷ []) number_row (setting_row n ∷ []) ≡ number_row ∷ []
numbered n =
    ap (λ b. (if b then number_row else setting_row n) ∷ [])
    (begins (codes "schema") (codes "schema") (Int n ∷ []) ∙ same_itself (codes "schema"))

same_in : (c : Contents) (tables : List Table) → AllByRecursion (λ t. IsPermutation (c t.tree) (c t.tree)) tables
same_in c [] = tt
same_in c (t ∷ tables) = (IsPermutation-refl (c t.tree), same_in c tables)

-- what an inventory of a schema is besides
abbrev pub IsOf : Schema → Inventory → Type 0
IsOf First i = IsOfEarlier i
IsOf Second i = IsOfEarlier i
IsOf Third i = Unit {0}

pub stands_own : (r : Schema) (i : Inventory) (db : Database) → StandsUnder r i db → IsOf r i
stands_own First i db h = h.earlier
stands_own Second i db h = h.earlier
stands_own Third i db h = tt

taken : (r : Schema) (i : Inventory) (db : Database) → IsInventory i → IsOf r i
    → HasContents store_schema (with_number (fold with_moved (made_under r i) (heads_under r i))) db
    → HasContents store_schema (rows_of i) db
taken First i db inventory earlier =
    let ss = i.global.sysmods in
    let heads = map head_of ss in
    let was = made_under First i in
    let left = λ (t : ℕ) (away : (t == 2) ≡ false) (far : (t == 18) ≡ false).
    same_rows (sym (moving_leaves heads was t away far)) in
    let lacked = λ (t : ℕ) (away : (t == 2) ≡ false) (far : (t == 18) ≡ false) (rows : List Row) (none : rows ≡ was t).
    same_rows (none ∙ sym (moving_leaves heads was t away far)) in
    permuted store_schema (with_number (fold with_moved was heads)) (rows_of i) db (
      same_rows (sym (ap (in_place (Text (codes "schema") ∷ []) number_row) (moving_leaves heads was 0 refl refl)
          ∙ numbered (pos 1))),
      (
        same_rows (sym (moving_empties heads was ∙ all_emptied ss inventory.global.sysmods)),
        (
          left 4 refl refl,
          (
            left 6 refl refl,
            (
              left 8 refl refl,
              (
                left 10 refl refl,
                (
                  left 12 refl refl,
                  (
                    left 14 refl refl,
                    (
                      left 16 refl refl,
                      (
                        subst (IsPermutation (flat_map sources_of ss)) (sym (moving_adds heads was))
                            (subst (λ rows. IsPermutation rows (added heads [])) (append-nil (flat_map sources_of ss))
                            (added_are ss [])),
                        (
                          lacked 20 refl refl (flat_map morevers_of ss) (no_morevers i earlier),
                          (
                            lacked 22 refl refl (flat_map moreifs_of ss) (no_moreifs i earlier),
                            (lacked 24 refl refl (flat_map chosen_of i.zones) (no_chosen i earlier), tt),
                          ),
                        ),
                      ),
                    ),
                  ),
                ),
              ),
            ),
          ),
        ),
      ),
    )
-- The number is another, and there are tables that it lacks.
taken Second i db inventory earlier =
    let own = drop 1 (tables_under Second) in
    permuted store_schema (with_number (made_under Second i)) (rows_of i) db (
      same_rows (sym (numbered (pos 2))),
      recursion_append (λ t. IsPermutation (rows_of i t.tree) (with_number (made_under Second i) t.tree)) own
          (missing_tables Second) (same_in (rows_of i) own) (
            same_rows (no_morevers i earlier),
            (same_rows (no_moreifs i earlier), (same_rows (no_chosen i earlier), tt)),
          ),
    )
-- Only the number is another.
taken Third i db inventory own =
    permuted store_schema (with_number (made_under Third i)) (rows_of i) db
    (same_rows (sym (numbered (pos 3))), same_in (rows_of i) (drop 1 (tables_under Third)))

pub all_taken : (r : Schema) (i : Inventory) (heads : List Head) (db : Database) → heads ≡ heads_under r i
    → IsInventory i → IsOf r i → HasContents store_schema (with_number (fold with_moved (made_under r i) heads)) db
    → StandsFor i db
all_taken r i heads db are inventory own held = record {
  tables = taken r i db inventory own
      (subst (λ hs. HasContents store_schema (with_number (fold with_moved (made_under r i) hs)) db) are held);
  inventory = inventory;
}
