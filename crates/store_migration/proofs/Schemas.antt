-- What is told of a database of a schema.
use Rattle.std.proofs.Common.{◌≡◌, ◌⊎◌, List, [], length, inl, inr, Bool, true, false, Ok, Err, Result}
use Rattle.std.proofs.Common.{arith, refl, sym, ap, subst, ◌∙◌, true≢false}
use Rattle.sqlite.specs.declared.error.Error.{Error}
use Rattle.sqlite.specs.declared.error.Error.TheVariants.{SqliteFailure}
use Rattle.sqlite.specs.declared.error.ErrorCode.TheVariants.{OutOfMemory}
use Rattle.sqlite.specs.Effect.{Database}
use Rattle.sqlite.specs.Listing.{understood, listing_schema}
use Rattle.sqlite.specs.Schema.{Schema as SqliteSchema}
use Rattle.sqlite.specs.State.{State, Shown}
use Rattle.sqlite.specs.Order.{Row}
use Rattle.sqlite_resolve.specs.declared.compiled.Compiled.{Compiled}
use Rattle.sqlite_resolve.specs.declared.error.CompileError.{CompileError}
use Rattle.sqlite_tied.specs.Compute.{everything}
use Rattle.store_schema.specs.declared.error.StoreError.TheVariants.{Fault, Memory}
use Rattle.store_schema.specs.declared.schema.Schema.{Schema}
use Rattle.store_schema.specs.declared.schema.Schema.TheVariants.{First, Second, Third}
use Rattle.store_schema.specs.Create.{IsBlank}
use Rattle.store_schema.specs.Earlier.{schema_under, StandsUnder, IsEarlierStateOf}
use Rattle.store_schema.specs.Inventory.{Inventory}
use Rattle.store_schema.specs.Known.{select_meta, told}
use Rattle.store_schema.proofs.OneState.{one_schema}
use Rattle.store_schema.specs.Stands.{IsStateOf}
use Rattle.store_schema.specs.Tables.{schema_of}

pub only_third : (r : Schema) → schema_under r ≡ schema_under Third → r ≡ Third
only_third r = one_schema r Third

pub not_blank : (r : Schema) (db : Database) → db.schema ≡ schema_under r → IsBlank db → ⊥
not_blank First db own blank = absurd (omega (arith, ap (λ (x : SqliteSchema). length x.tables) (sym blank ∙ own)))
not_blank Second db own blank = absurd (omega (arith, ap (λ (x : SqliteSchema). length x.tables) (sym blank ∙ own)))
not_blank Third db own blank = absurd (omega (arith, ap (λ (x : SqliteSchema). length x.tables) (sym blank ∙ own)))

pub is_earlier : (r : Schema) (i : Inventory) (db : Database) → StandsUnder r i db → IsEarlierStateOf i db
is_earlier First i db stands = inr (inl stands)
is_earlier Second i db stands = inr (inr stands)
is_earlier Third i db stands = inl (inr stands)

-- a state is that of tables that are not there, or of one schema's
abbrev IsOfSome : Inventory → Database → Type 0
IsOfSome i db = IsBlank db ⊎ ((r : Schema) × StandsUnder r i db × (db.schema ≡ schema_under r))

of_some : (i : Inventory) (db : Database) → IsEarlierStateOf i db → IsOfSome i db
of_some i db (inl (inl blank)) = inl blank.0
of_some i db (inl (inr stands)) = inr (Third, stands, stands.tables.schema_is)
of_some i db (inr (inl stands)) = inr (First, stands, stands.tables.schema_is)
of_some i db (inr (inr stands)) = inr (Second, stands, stands.tables.schema_is)

-- under a schema it is of that schema
pub of_schema : (r : Schema) (i : Inventory) (db : Database) → db.schema ≡ schema_under r → IsEarlierStateOf i db
    → StandsUnder r i db
of_schema r i db own is = elim (of_some i db is) [
  | inl blank ↦ absurd (not_blank r db own blank)
  | inr it ↦ subst (λ s. StandsUnder s i db) (one_schema it.0 r (sym it.2 ∙ own)) it.1
]

pub of_blank : (i : Inventory) (db : Database) → IsBlank db → IsEarlierStateOf i db → IsStateOf i db
of_blank i db blank (inl is) = is
of_blank i db blank (inr (inl stands)) = absurd (not_blank First db stands.tables.schema_is blank)
of_blank i db blank (inr (inr stands)) = absurd (not_blank Second db stands.tables.schema_is blank)

-- ---- a database without tables and views

has_failed : Result Compiled CompileError → Bool
has_failed (Ok c) = false
has_failed (Err e) = true

unread : has_failed (understood (schema_of []) select_meta) ≡ true
unfolding has_failed understood listing_schema everything
unread = refl

-- it has no meta to ask
pub shows_none : (at : State) (rows : List Row) → IsBlank at.now → Shown select_meta [] at at rows → ⊥
unfolding Shown has_failed
shows_none at rows blank h =
    let read : has_failed (understood (schema_of []) select_meta) ≡ false =
    ap has_failed (subst (λ (s : SqliteSchema). understood s select_meta ≡ Ok h.0) blank h.1.is) in
    true≢false (sym unread ∙ read)

-- ---- how an error is told

pub told_is : (e : Error) → (told e ≡ Memory) ⊎ (told e ≡ Fault)
told_is (SqliteFailure OutOfMemory) = inl refl
told_is _ = inr refl
