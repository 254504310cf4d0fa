-- What a query found is what it asks for.
use Rattle.std.proofs.Common.{◌≡◌, ℕ, List, [], ◌∷◌, IsPermutation, sym, subst}
use Rattle.sqlite.specs.Order.{Row}
use Rattle.sqlite.specs.Schema.{Schema}
use Rattle.sqlite.specs.Table.{Table}
use Rattle.store_rows.specs.Rows.{AreRows, AreFound}
use Rattle.store_rows.specs.Texts.{ReadsRows}
use Rattle.store_rows.proofs.ContentsLemmas.{found_are, found_with, all_found, found_all}
use Rattle.store_schema.specs.Asked.{asked}

pub found_asked : (table : Table) (key : Row) (held found rows : List Row) → AreRows table held rows
    → AreFound table key found rows → IsPermutation found (asked key held)
found_asked table [] held found rows are h = all_found table held found rows are h
found_asked table (k ∷ key) held found rows are h = found_are table (k ∷ key) held found rows are h

pub asked_found : (table : Table) (key : Row) (held found rows : List Row) → AreRows table held rows
    → IsPermutation found (asked key held) → AreFound table key found rows
asked_found table [] held found rows are h = found_all table held found rows are h
asked_found table (k ∷ key) held found rows are h = found_with table (k ∷ key) held found rows are h

-- a text that reads by so many columns
pub reads_by : (schema : Schema) (table : Table) (width given : ℕ) (sql : List ℕ) → given ≡ width
    → ReadsRows schema table width sql → ReadsRows schema table given sql
reads_by schema table width given sql is reads = subst (λ (n : ℕ). ReadsRows schema table n sql) (sym is) reads
