-- Rows of one table, or of two, under each schema.
use Rattle.std.proofs.Common.{◌≡◌, ◌⊎◌, inl, inr, List, Result, map, IsPermutation}
use Rattle.std.specs.List.{AllByRecursion}
use Rattle.sqlite.specs.Store.{Ghosts}
use Rattle.sqlite.specs.Held.{Held}
use Rattle.sqlite.specs.Order.{Row}
use Rattle.terms.specs.Types.{Sysmod}
use Rattle.store_rows.specs.declared.error.ReadError.{ReadError}
use Rattle.store_rows.specs.Rows.{Contents}
use Rattle.store_rows.proofs.InsideLemmas.{if_ok}
use Rattle.store_schema.specs.declared.schema.Schema.{Schema}
use Rattle.store_schema.specs.declared.schema.Schema.TheVariants.{First, Second, Third}
use Rattle.store_sysmod_loads.specs.Both.{AreRowsIn, LoadsRows}
use Rattle.store_sysmod_loads.specs.Flats.{AreFormed, AreRowsOf}
use Rattle.store_sysmod_loads.specs.Parts.{LoadsPart}

module _ {X : Type 0} (row_of further_row_of : X → Row) (HasForm HasFurtherForm : X → Type 0)
    (held further_held : List Row) where
  abbrev AreIn : Schema → List X → Type 0
  AreIn r = AreRowsIn r row_of further_row_of HasForm HasFurtherForm held further_held

  abbrev AreAlone : List X → Type 0
  AreAlone rows = AllByRecursion HasForm rows × IsPermutation (map row_of rows) held

  pub early_rows : (r : Schema) → (r ≡ First) ⊎ (r ≡ Second) → (rows : List X) → AreAlone rows → AreIn r rows
  early_rows First is rows h = h
  early_rows Second is rows h = h
  early_rows Third (inl is) rows h = absurd cc
  early_rows Third (inr is) rows h = absurd cc

  pub rows_early : (r : Schema) → (r ≡ First) ⊎ (r ≡ Second) → (rows : List X) → AreIn r rows → AreAlone rows
  rows_early First is rows h = h
  rows_early Second is rows h = h
  rows_early Third (inl is) rows h = absurd cc
  rows_early Third (inr is) rows h = absurd cc

-- what is so of any such rows is so of those of SYSMODs
pub part_of : {S X Y : Type 0} {g : Ghosts S} {r : Schema} {items : Y → List X}
    {AreHeld : List X → Contents → Type 0} {Rise : List X → Type 0} (all : List Sysmod → List X)
    (Hold : List X → Contents → Type 0) {old new : Held S} {result : Result Y ReadError}
    → ((xs : List X) (contents : Contents) → AreHeld xs contents → Hold xs contents)
    → ((ss : List Sysmod) (contents : Contents) → AreFormed r ss → AreRowsOf r ss contents → AreHeld (all ss) contents)
    → ((ss : List Sysmod) → AreFormed r ss → Rise (all ss)) → LoadsRows g r items AreHeld Rise old new result
    → LoadsPart g r (λ y contents. Hold (items y) contents) (λ y ss. items y ≡ all ss) old new result
part_of all Hold {result = result} hold own rise h = record {
  found = λ clean contents was. if_ok result _ _ (λ y held. hold _ contents held) (h.found clean contents was);
  only = λ clean contents was ss formed rows.
      if_ok result _ _ (λ y only. only (all ss) (own ss contents formed rows) (rise ss formed))
      (h.only clean contents was);
  none = λ clean bad contents was ss formed rows.
      h.none clean bad contents was (all ss) (own ss contents formed rows);
  reads = h.reads;
}
