-- The holds of an inventory have their forms, and its rows are theirs.
use Rattle.std.proofs.Common.{◌≡◌, map, IsPermutation}
use Rattle.std.specs.List.{AllByRecursion}
use Rattle.std.proofs.lemmas.List.Elements.{recursion_from_All}
use Rattle.std.proofs.lemmas.List.Sorted.{IsPermutation-refl}
use Rattle.terms.specs.Types.{Hold}
use Rattle.store_schema.specs.declared.schema.Schema.{Schema}
use Rattle.store_schema.specs.declared.schema.Schema.TheVariants.{First, Second, Third}
use Rattle.store_schema.specs.Forms.{HasHoldForms}
use Rattle.store_schema.specs.Inventory.{Inventory, IsInventory}
use Rattle.store_schema.specs.Rows.{hold_row}
use Rattle.store_schema.specs.Tables.{hold}
use Rattle.store_schema.proofs.OneState.{hold_is}
use Rattle.store_schema.proofs.UnderEach.{rows_under}

pub holds_formed : (i : Inventory) → IsInventory i → AllByRecursion HasHoldForms i.global.holds
holds_formed i h = recursion_from_All HasHoldForms i.global.holds h.holds

pub holds_rows : (r : Schema) (i : Inventory) → IsPermutation (map hold_row i.global.holds)
    (rows_under r i hold.tree)
holds_rows First i = IsPermutation-refl _
holds_rows Second i = IsPermutation-refl _
holds_rows Third i = IsPermutation-refl _

-- a row says all of its hold
pub exact_hold : (a b : Hold) → HasHoldForms a → HasHoldForms b → hold_row a ≡ hold_row b → a ≡ b
exact_hold a b p q e = hold_is a b e
