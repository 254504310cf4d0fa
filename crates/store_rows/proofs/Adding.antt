-- Rows that are added to one table, by one statement after the other.
use Rattle.std.proofs.Common.{◌≡◌, ℕ, ◌==◌, Bool, true, false, if◌then◌else◌, List, [], ◌∷◌, ◌++◌, IsPermutation}
use Rattle.std.proofs.Common.{refl, subst}
use Rattle.std.specs.List.{AllByRecursion}
use Rattle.std.proofs.lemmas.List.{append_assoc}
use Rattle.std.proofs.lemmas.List.Sorted.{IsPermutation-refl, IsPermutation-append_left, IsPermutation-append_comm}
use Rattle.sqlite.specs.Effect.{Database}
use Rattle.sqlite.specs.Store.{Ghosts}
use Rattle.sqlite.specs.Held.{Held, state}
use Rattle.sqlite.specs.Order.{Row}
use Rattle.sqlite.specs.Schema.{Schema}
use Rattle.sqlite.specs.Table.{Table}
use Rattle.store_rows.specs.Inside.{StaysInside, Turns}
use Rattle.store_rows.specs.Rows.{Contents, HasContents, in_table, with_rows}
use Rattle.store_rows.proofs.ContentsLemmas.{permuted}
use Rattle.store_rows.proofs.InsideLemmas.{turns_then}

-- contents that hold the same rows, in another order, in each table
all_tables : (tables : List Table) (c d : Contents) → ((t : ℕ) → IsPermutation (d t) (c t))
    → AllByRecursion (λ (t : Table). IsPermutation (d t.tree) (c t.tree)) tables
all_tables [] c d same = tt
all_tables (t ∷ tables) c d same = (same t.tree, all_tables tables c d same)

pub reordered : (schema : Schema) (c d : Contents) (db : Database) → ((t : ℕ) → IsPermutation (d t) (c t))
    → HasContents schema c db → HasContents schema d db
reordered schema c d db same = permuted schema c d db (all_tables schema.tables c d same)

no_rows : (b : Bool) (rows : List Row) → (if b then [] ++ rows else rows) ≡ rows
no_rows true rows = refl
no_rows false rows = refl

both : (b : Bool) (xs ys rows : List Row) → IsPermutation (if b then (xs ++ ys) ++ rows else rows)
    (if b then ys ++ (if b then xs ++ rows else rows) else (if b then xs ++ rows else rows))
both true xs ys rows = subst (IsPermutation ((xs ++ ys) ++ rows)) (append_assoc ys xs rows)
    (IsPermutation-append_left rows (xs ++ ys) (ys ++ xs) (IsPermutation-append_comm xs ys))
both false xs ys rows = IsPermutation-refl rows

module _ {S : Type 0} (g : Ghosts S) (schema : Schema) (table : Table) where
  -- the table holds these rows too
  abbrev pub Adds : List Row → Held S → Held S → Type 0
  Adds rows old new = Turns g old new (HasContents schema) (in_table table (with_rows rows))

  pub adds_none : (old : Held S) → Adds [] old old
  adds_none old clean c was = reordered schema c (in_table table (with_rows []) c) (state g old).now
      (λ t. subst (IsPermutation (in_table table (with_rows []) c t)) (no_rows (t == table.tree) (c t))
      (IsPermutation-refl _)) was

  pub adds_then : (a b c : Held S) (xs ys : List Row) → StaysInside g b c → Adds xs a b → Adds ys b c
      → Adds (xs ++ ys) a c
  adds_then a b c xs ys q one two clean held was =
      reordered schema (in_table table (with_rows ys) (in_table table (with_rows xs) held))
      (in_table table (with_rows (xs ++ ys)) held) (state g c).now (λ t. both (t == table.tree) xs ys (held t))
      (turns_then g a b c (HasContents schema) (in_table table (with_rows xs)) (in_table table (with_rows ys)) q
      one two clean held was)
