-- The rows of meta, as a query shows them over any tables.
use Rattle.std.proofs.Common.{◌≡◌, ◌≢◌, ◌⊎◌, inl, inr, ℕ, ℤ, pos, List, [], ◌∷◌, ◌++◌, map, Bool, true, false, Option}
use Rattle.std.proofs.Common.{Some, None, Ok, Err, Result, Contains, IsPermutation, IsTrue, IfOk, IfErr, Vec, MatchBool}
use Rattle.std.proofs.Common.{if◌then◌else◌, codes, drop, refl, sym, ap, ap₂, subst, ◌∙◌}
use Rattle.std.proofs.lemmas.List.Sorted.{IsPermutation-sym}
use Rattle.std.specs.declared.alloc.Global.{Global}
use Rattle.sqlite.specs.Command.TheVariants.{Select}
use Rattle.sqlite.specs.declared.error.Error.{Error}
use Rattle.sqlite.specs.Order.{Row}
use Rattle.sqlite.specs.Term.{Term, col}
use Rattle.sqlite.specs.Listing.{understood, reads_listing}
use Rattle.sqlite.specs.State.{State, IsUnchanged, KeepsCommit, Survives, Shown, CommitsShowing, FailsToQuery}
use Rattle.sqlite.proofs.Callers.{IsPlain, command_of, reads_as, one_permutation}
use Rattle.sqlite_tied.specs.Compute.{everything}
use Rattle.store_schema.specs.Tables.{meta, schema_of}
use Rattle.store_schema.specs.Known.{select_meta, select_own, GivesOther, IsNumber, own_numbers, known_numbers}
use Rattle.store_schema.specs.Known.{HasNumberBut, HasNumbersAmong, HasNoState, HasNoSchema, HasOwnTables}
use Rattle.store_schema.specs.Known.{HasTablesUnder}
use Rattle.store_schema.specs.Earlier.{tables_under, schema_under, number_under, IsEarlierStateOf}
use Rattle.store_schema.specs.declared.schema.Schema.{Schema}
use Rattle.store_schema.specs.declared.schema.Schema.TheVariants.{First, Second, Third}
use Rattle.sqlite.specs.Command.{Command}
use Rattle.sqlite.specs.Table.{Table}
use Rattle.sqlite.specs.Effect.{Database}
use Rattle.store_schema.specs.Create.{IsBlank}
use Rattle.store_schema.specs.Inventory.{Inventory}
use Rattle.store_schema.specs.Stands.{IsStateOf}
use Rattle.store_schema.specs.Rows.{setting_row}
use Rattle.std.specs.List.{Any}
use Rattle.store_rows.specs.Rows.{shown, AreRows}
use Rattle.store_rows.specs.Texts.{scan_by}
use Rattle.store_rows.proofs.RowLemmas.{whole, filter_all, keyed}
use Rattle.store_rows.proofs.Statements.{scans}
use Rattle.sqlite_rules.specs.Lists.{Has}
use Rattle.store_schema.proofs.Number.{one_setting}
use Rattle.store_rows.specs.Selects.{IsSelect}
use Rattle.store_rows.proofs.Selects.{select_unchanged, select_again, select_keeps, select_survives}

meta_selects : IsSelect select_meta
unfolding everything
meta_selects = refl

own_selects : IsSelect select_own
unfolding everything
own_selects = refl

pub meta_unchanged : (old new : State) (rows : List Row) → Shown select_meta [] old new rows → IsUnchanged old new
meta_unchanged = select_unchanged select_meta [] meta_selects

pub meta_keeps : (r : Result (Vec Row Global) Error) (old new : State)
    → IfOk r (λ rows. Shown select_meta [] old new rows.items) → IfErr r (FailsToQuery select_meta [] old new)
    → KeepsCommit old new
meta_keeps = select_keeps select_meta [] meta_selects

pub meta_survives : (old new : State) → Survives old new (CommitsShowing select_meta [] old) → Survives old new (λ _. ⊥)
meta_survives = select_survives select_meta [] meta_selects

pub own_unchanged : (old new : State) (rows : List Row) → Shown select_own [] old new rows → IsUnchanged old new
own_unchanged = select_unchanged select_own [] own_selects

pub own_keeps : (r : Result (Vec Row Global) Error) (old new : State)
    → IfOk r (λ rows. Shown select_own [] old new rows.items) → IfErr r (FailsToQuery select_own [] old new)
    → KeepsCommit old new
own_keeps = select_keeps select_own [] own_selects

pub own_survives : (old new : State) → Survives old new (CommitsShowing select_own [] old) → Survives old new (λ _. ⊥)
own_survives = select_survives select_own [] own_selects

-- ---- what its rows say

pub other_number : (numbers : List ℤ) (old new : State) (rows : List Row) → Shown select_meta [] old new rows
    → Any (GivesOther numbers) rows → HasNumberBut numbers old
other_number numbers old new rows h other = record {
  rows = rows;
  shown = select_again select_meta [] meta_selects old new rows h;
  other = other;
}

pub none_other : (numbers : List ℤ) (old new : State) (rows : List Row) → Shown select_meta [] old new rows
    → ¬ Any (GivesOther numbers) rows → HasNumbersAmong numbers old
none_other numbers old new rows h none = record {
  rows = rows;
  shown = select_again select_meta [] meta_selects old new rows h;
  no_other = none;
}

abbrev own_columns : List Term
own_columns = col 1 0 ∷ col 1 1 ∷ col 1 2 ∷ []

abbrev own_select : Command
own_select =
    Select (record { lets = []; body = scan_by 0 [] own_columns [] }) (codes "rowid" ∷ codes "k" ∷ codes "v" ∷ [])

-- whatever tables stand behind meta
own_is : (more : List Table) → command_of (understood (schema_of (meta ∷ more)) select_own) ≡ own_select
unfolding understood everything
own_is more = refl

own_plain : (more : List Table) → IsPlain (understood (schema_of (meta ∷ more)) select_own)
unfolding understood everything
own_plain more = (refl, refl)

own_unlisted : (more : List Table) → reads_listing (schema_of (meta ∷ more)) select_own ≡ false
unfolding understood everything
own_unlisted more = refl

meta_first : (r : Schema) → tables_under r ≡ meta ∷ drop 1 (tables_under r)
meta_first First = refl
meta_first Second = refl
meta_first Third = refl

own_rows : (r : Schema) (old new : State) (rows : List Row) → old.now.schema ≡ schema_under r
    → Shown select_own [] old new rows → IsPermutation (map (whole (shown meta)) (old.now.trees 0)) rows
own_rows r old new rows has h =
    let more = drop 1 (tables_under r) in
    let read = reads_as select_own [] old new (schema_of (meta ∷ more)) (has ∙ ap schema_of (meta_first r)) own_select
    (own_is more) (own_plain more) (own_unlisted more) rows h in
    rw filter_all at (scans 0 [] own_columns [] old.now.trees [] rows read.answer)

pub known_tables : (r : Schema) (old new : State) (rows : List Row) → Shown select_own [] old new rows
    → IsNumber (number_under r) rows → old.now.schema ≡ schema_under r → HasTablesUnder r old.now
known_tables r old new rows h one has =
    let row = one.0 in
    let same = rw one.1 at (own_rows r old new rows has h) in
    record {
      schema = has;
      number = one_setting (number_under r) one.2.0 (old.now.trees 0)
          (one_permutation row _ (IsPermutation-sym _ _ same) ∙ ap (λ r. r ∷ []) one.2.1);
    }

-- a list whose image has one element has one
one_mapped : {A B : Type 0} (f : A → B) (xs : List A) (y : B) → map f xs ≡ y ∷ [] → (x : A) × (xs ≡ x ∷ []) × (f x ≡ y)
one_mapped f [] y is = absurd cc
one_mapped f (x ∷ []) y is = (x, refl, cc)
one_mapped f (x ∷ z ∷ more) y is = absurd (omega (
  Rattle.std.proofs.Common.arith,
  ap Rattle.std.proofs.Common.length is,
))

is_number : (n : ℤ) (rows : List Row) → AreRows meta (setting_row n ∷ []) rows → (found : List Row)
    → IsPermutation (map (whole (shown meta)) rows) found → IsNumber n found
is_number n rows own found same =
    let one = one_mapped (shown meta) rows (setting_row n) (one_permutation (setting_row n) _ own.same) in
    let keyed = keyed (shown meta) rows own.numbered one.0 (subst (λ l. Has l one.0) (sym one.1) (inl refl)) in
    let row = whole (shown meta) one.0 in (
      row,
      one_permutation row found (subst (λ l. IsPermutation (map (whole (shown meta)) l) found) one.1 same),
      (_, ap₂ ◌∷◌ keyed one.2),
    )

pub not_known : (r : Schema) (old new : State) (rows : List Row) → Shown select_own [] old new rows
    → ¬ IsNumber (number_under r) rows → ¬ HasTablesUnder r old.now
not_known r old new rows h none own = none (is_number (number_under r) (old.now.trees 0) own.number rows
    (own_rows r old new rows own.schema h))

no_state_of : (db : Database) → ¬ IsBlank db → ¬ HasOwnTables db → (i : Inventory) → ¬ IsStateOf i db
no_state_of db tables none i (inl blank) = tables blank.0
no_state_of db tables none i (inr stands) = none (record {
  schema = stands.tables.schema_is;
  number = stands.tables.tables.0;
})

pub no_state : (old : State) → HasNumbersAmong own_numbers old → ¬ IsBlank old.now → ¬ HasOwnTables old.now
    → HasNoState old
no_state old numbers tables none = record {
  none = no_state_of old.now tables none;
  not_own = none;
  rows = numbers.rows;
  shown = numbers.shown;
  no_other = numbers.no_other;
}

no_schema_of : (db : Database) → ¬ IsBlank db → ((r : Schema) → ¬ HasTablesUnder r db) → (i : Inventory)
    → ¬ IsEarlierStateOf i db
no_schema_of db tables none i (inl own) = no_state_of db tables (none Third) i own
no_schema_of db tables none i (inr (inl stands)) = none First (record {
  schema = stands.tables.schema_is;
  number = stands.tables.tables.0;
})
no_schema_of db tables none i (inr (inr stands)) = none Second (record {
  schema = stands.tables.schema_is;
  number = stands.tables.tables.0;
})

pub no_schema : (old : State) → HasNumbersAmong known_numbers old → ¬ IsBlank old.now
    → ((r : Schema) → ¬ HasTablesUnder r old.now) → HasNoSchema old
no_schema old numbers tables none = record {
  none = no_schema_of old.now tables none;
  not_known = none;
  rows = numbers.rows;
  shown = numbers.shown;
  no_other = numbers.no_other;
}

pub not_both : (b : Bool) → IsTrue b → b ≡ false → ⊥
not_both b holds fails = absurd cc
