-- What a text that makes a table makes of the tables before it.
use Rattle.std.proofs.Common.{◌≡◌, ℕ, List, [], ◌∷◌, ◌++◌, false, None, Ok, Err, Result, OnOk, IfOk, sym, ap, subst}
use Rattle.std.proofs.Common.{◌∙◌}
use Rattle.std.specs.List.{AllByRecursion}
use Rattle.sqlite.specs.Command.TheVariants.{CreateTable}
use Rattle.sqlite.specs.Schema.{Schema}
use Rattle.sqlite.specs.Table.{Table}
use Rattle.sqlite.specs.Tree.{Trees}
use Rattle.sqlite.specs.Listing.{understood}
use Rattle.sqlite.specs.Compile.{table_defined_by}
use Rattle.sqlite.specs.Change.{created, next_tree, KeepsRows}
use Rattle.sqlite_catalog.specs.Calls.{CreatesTable}
use Rattle.sqlite.specs.Does.{Tally, lacks_sequence}
use Rattle.sqlite.specs.Effect.{Database, IsDatabase}
use Rattle.sqlite.specs.Store.{Ghosts}
use Rattle.sqlite.specs.Held.{Held, state}
use Rattle.sqlite.specs.State.{State, HasCleanDisk, Writes, Executes}
use Rattle.sqlite.proofs.Callers.{IsPlain, command_of, statement_of, runs_as}
use Rattle.sqlite_trees.proofs.ListLemmas.{all-append}
use Rattle.sqlite.specs.Order.{Row}
use Rattle.std.proofs.lemmas.List.Sorted.{IsPermutation-refl}
use Rattle.store_rows.proofs.RowLemmas.{none_numbered}
use Rattle.store_rows.specs.Rows.{AreRows, Contents, HasContents}
use Rattle.store_rows.specs.Inside.{StaysInside, Leads}
use Rattle.store_rows.proofs.Statements.{went, same_value}
use Rattle.store_rows.proofs.InsideLemmas.{leads_then}
use Rattle.store_schema.specs.Tables.{schema_of}
use Rattle.store_schema.specs.Known.{HasRun}

creates_table : (old new : State) (schema : Schema) (text : List ℕ) (table : Table) (count : ℕ)
    → old.now.schema ≡ schema → command_of (understood schema text) ≡ CreateTable → IsPlain (understood schema text)
    → statement_of text (understood schema text) ≡ text → table_defined_by text ≡ Ok table
    → lacks_sequence (created schema table) ≡ false → Executes text [] old new (Ok count)
    → (new.now.schema ≡ created schema table) × (new.now.trees (next_tree schema) ≡ [])
    × KeepsRows schema.tables old.now.trees new.now.trees × IsDatabase new.now
creates_table old new schema text table count has is plain whole defined counted h =
    let w = subst (λ t. Writes old new None CreateTable t [] count) whole
    (runs_as text [] old new schema has CreateTable is plain count h) in
    let all = went w.changed in
    let first = went all.1 in
    let made = subst (λ s. CreatesTable s text old.now.trees first.0.schema first.0.trees) has first.1 in
    let both : Ok made.table ≡ Ok table = sym made.defined ∙ defined in
    let same : made.table ≡ table = cc in
    let after_it : first.0.schema ≡ created schema table = made.is ∙ ap (created schema) same in
    let plainly : lacks_sequence first.0.schema ≡ false = ap lacks_sequence after_it ∙ counted in
    let now : new.now ≡ first.0 = ap (λ (p : Tally × Database). p.1) (same_value all.2)
    ∙ same_value (rw plainly at first.2) in (
      ap (λ (d : Database). d.schema) now ∙ after_it,
      ap (λ (d : Database). d.trees (next_tree schema)) now
          ∙ made.empty,
      subst (λ (d : Database). KeepsRows schema.tables old.now.trees d.trees) (sym now) made.others,
      w.sound,
    )

-- over these tables, the text makes the next one
pub record Makes (text : List ℕ) (made : List Table) (next : Table) : Type 0 where
  pub is : command_of (understood (schema_of made) text) ≡ CreateTable
  pub plain : IsPlain (understood (schema_of made) text)
  pub whole : statement_of text (understood (schema_of made) text) ≡ text
  pub defines : table_defined_by text ≡ Ok (record next { tree = 0 })
  pub makes : created (schema_of made) (record next { tree = 0 }) ≡ schema_of (made ++ next ∷ [])
  pub place : next_tree (schema_of made) ≡ next.tree
  pub uncounted : lacks_sequence (schema_of (made ++ next ∷ [])) ≡ false

pub no_rows : (table : Table) (rows : List Row) → rows ≡ [] → AreRows table [] rows
no_rows table rows none = record { same = rw none (IsPermutation-refl []); numbered = rw none none_numbered }

still_held : (tables : List Table) (contents : Contents) (old new : Trees) → KeepsRows tables old new
    → AllByRecursion (λ t. AreRows t (contents t.tree) (old t.tree)) tables
    → AllByRecursion (λ t. AreRows t (contents t.tree) (new t.tree)) tables
still_held [] contents old new kept was = tt
still_held (t ∷ ts) contents old new kept was = (
  subst (AreRows t (contents t.tree)) (sym kept.0) was.0,
  still_held ts contents old new kept.1 was.1,
)

module _ (text : List ℕ) (made : List Table) (next : Table) (m : Makes text made next) (contents : Contents)
    (none : contents next.tree ≡ []) where
  -- a text that has run over these tables has made the next one, which has no rows
  pub makes_table : (old new : State) → old.now.schema ≡ schema_of made
      → AllByRecursion (λ t. AreRows t (contents t.tree) (old.now.trees t.tree)) made → HasRun text old new
      → HasContents (schema_of (made ++ next ∷ [])) contents new.now
  makes_table old new has was ran =
      let it = creates_table old new (schema_of made) text (record next { tree = 0 }) ran.0 has m.is m.plain m.whole
      m.defines (ap lacks_sequence m.makes ∙ m.uncounted) ran.1 in
      let place : new.now.trees next.tree ≡ [] = subst (λ n. new.now.trees n ≡ []) m.place it.1 in
      let empty : AreRows next (contents next.tree) (new.now.trees next.tree) =
      subst (λ held. AreRows next held (new.now.trees next.tree)) (sym none) (no_rows next _ place) in
      record {
        schema_is = it.0 ∙ m.makes;
        sound = it.3;
        tables = all-append _ made (next ∷ []) (still_held made contents old.now.trees new.now.trees it.2 was)
            (empty, tt);
      }

  module _ {S : Type 0} (g : Ghosts S) where
    pub leads_table : (old new : Held S) → (HasCleanDisk (state g new) → HasRun text (state g old) (state g new))
        → Leads g old new (HasContents (schema_of made) contents)
        (HasContents (schema_of (made ++ next ∷ [])) contents)
    leads_table old new ran clean was = makes_table (state g old) (state g new) was.schema_is was.tables (ran clean)

    -- the same behind what was made before
    pub leads_more : (a b c : Held S) (P : Database → Type 0) → StaysInside g b c
        → Leads g a b P (HasContents (schema_of made) contents)
        → (HasCleanDisk (state g c) → HasRun text (state g b) (state g c))
        → Leads g a c P (HasContents (schema_of (made ++ next ∷ [])) contents)
    leads_more a b c P inside one ran = leads_then g a b c P (HasContents (schema_of made) contents)
        (HasContents (schema_of (made ++ next ∷ [])) contents) inside one (leads_table b c ran)

-- a fact that follows from one which a premise gives
pub on_ok_under : {A E : Type 0} (r : Result A E) (D P Q : Type 0) → ((D → P) → Q) → (D → OnOk r P) → OnOk r Q
on_ok_under (Ok a) D P Q f h = f h
on_ok_under (Err e) D P Q f h = tt

pub on_ok_if : {A E : Type 0} (r : Result A E) (P : A → Type 0) (Q : Type 0) → ((a : A) → P a → Q) → IfOk r P → OnOk r Q
on_ok_if (Ok a) P Q f h = f a h
on_ok_if (Err e) P Q f h = tt
