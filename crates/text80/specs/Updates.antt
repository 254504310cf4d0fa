use Rattle.std.specs.Prelude.{◌≡◌, ℕ, List, ◌∷◌}
use Rattle.std.specs.List.Sorted.{IsNonDecreasingBy}
use Rattle.terms.specs.Types.{Text, Lines}
use Rattle.terms.specs.Texts.{IsChange, FollowChange, IsUpdate, HasRestFault, IsFirstFault, IsUpdateFault}
use Rattle.text80.specs.declared.control.Range.{Range}
use Rattle.text80.specs.declared.error.TextError.{TextError}
use Rattle.text80.specs.declared.error.TextError.TheVariants.{Memory, Fault}
use Rattle.text80.specs.Ranges.{AreRangesOf}

-- The first fault of an update, or that memory ran out.
abbrev pub IsUpdateError : Text → Lines → TextError → Type 0
IsUpdateError name records Memory = Unit {0}
IsUpdateError name records (Fault fault) = IsUpdateFault name records fault

-- The first fault of the records after the CHANGE record, or that memory ran out.
abbrev pub IsRestError : Lines → TextError → Type 0
IsRestError lines Memory = Unit {0}
IsRestError lines (Fault fault) = IsFirstFault FollowChange HasRestFault 1 lines fault

-- A CHANGE record of this name comes before the rest.
pub record StandsBefore (name : Text) (records rest : Lines) : Type 0 where
  pub first : List ℕ
  pub records_are : records ≡ first ∷ rest
  pub change : IsChange name first

-- good records after a CHANGE record, and what they delete
pub record AreGood (lines : Lines) (ranges : List Range) : Type 0 where
  pub follow : FollowChange lines
  pub rising : IsNonDecreasingBy (λ r. r.low) ranges
  pub ranges_are : AreRangesOf lines ranges

-- an update, and what it deletes
pub record IsSound (records : Lines) (ranges : List Range) : Type 0 where
  pub name : Text
  pub update : IsUpdate name records
  pub rising : IsNonDecreasingBy (λ r. r.low) ranges
  pub ranges_are : AreRangesOf records ranges
