-- The items of this crate as the definitions see them, and what is wrong with an item or with the file.
use Rattle.std.specs.Prelude.{ℕ, List, Option, map}
use Rattle.terms.specs.declared.codes.StatementCode.{StatementCode}
use Rattle.terms.specs.declared.codes.StatementCode.TheVariants.{BadStatementOperand, OverLimit}
use Rattle.terms.specs.declared.statement_words.StatementWord.{StatementWord}
use Rattle.terms.specs.Types as terms
use Rattle.terms.specs.Types.{Text, Lines}
use Rattle.terms.specs.Statement.{Piece}
use Rattle.terms.specs.HoldFile.{HasItem, IsWithin, IsItemFault, BeginsWithItems, IsNextItemFault, IsHoldFileFault}
use Rattle.mcs.specs.declared.error.McsError.{McsError}
use Rattle.mcs.specs.declared.error.McsError.TheVariants as file
use Rattle.mcs.specs.declared.fault.StatementError.{StatementError}
use Rattle.mcs.specs.declared.fault.StatementError.TheVariants.{Memory, Fault}
use Rattle.mcs.specs.declared.hold_item.HoldItem.{HoldItem}
use Rattle.mcs.specs.declared.hold_item.HoldItem.TheVariants.{Hold, Release}

abbrev pub item_of : HoldItem → terms.HoldItem
item_of (Hold h) = terms.AHold h
item_of (Release r) = terms.ARelease r

abbrev pub items : List HoldItem → List terms.HoldItem
items xs = map item_of xs

-- The statement says this item, within its limits.
pub record IsItemSaid (w : StatementWord) (own : Option Text) (rest : List Piece) (item : terms.HoldItem) : Type 0 where
  pub value : HasItem w own rest item
  pub within : IsWithin item

-- It says nothing, or exceeds a limit.
abbrev pub IsSaidFault : StatementWord → Option Text → List Piece → StatementCode → Type 0
IsSaidFault w own rest BadStatementOperand = (item : terms.HoldItem) → ¬ HasItem w own rest item
IsSaidFault w own rest OverLimit = (item : terms.HoldItem) × HasItem w own rest item × (¬ IsWithin item)
IsSaidFault w own rest _ = ⊥

abbrev pub IsSaidError : StatementWord → Option Text → List Piece → StatementError → Type 0
IsSaidError w own rest Memory = Unit {0}
IsSaidError w own rest (Fault code) = IsSaidFault w own rest code

-- the first fault of a statement, or that memory ran out
abbrev pub IsItemError : Lines → StatementError → Type 0
IsItemError records Memory = Unit {0}
IsItemError records (Fault code) = IsItemFault records code

-- the first fault of the remaining statements, or that memory ran out
abbrev pub IsRestError : ℕ → Lines → McsError → Type 0
IsRestError n records file.Memory = Unit {0}
IsRestError n records (file.Fault number code) =
    (found : List terms.HoldItem) × (m : ℕ) × (rest : Lines)
    × BeginsWithItems n records found m rest × IsNextItemFault m rest (record { number = number; code = code })

-- the first fault of the file, or that memory ran out
abbrev pub IsHoldFileError : List ℕ → McsError → Type 0
IsHoldFileError bytes file.Memory = Unit {0}
IsHoldFileError bytes (file.Fault n code) = IsHoldFileFault bytes (record { number = n; code = code })
