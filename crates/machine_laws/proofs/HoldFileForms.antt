-- What a hold file says has the forms of what is stored.
use Rattle.std.proofs.Common.{◌≡◌, ℕ, false, List, [], ◌∷◌, Option, subst}
use Rattle.std.specs.List.{AllByRecursion}
use Rattle.std.proofs.lemmas.List.Elements.{recursion_from_All}
use Rattle.terms.specs.Types.{Lines, HoldItem, AHold, ARelease}
use Rattle.terms.specs.Records.{IsRecord}
use Rattle.terms.specs.Ptfin.{Parts, HasParts}
use Rattle.terms.specs.HoldFile.{HasItem, IsWithin, BeginsWithItems, IsHoldFile}
use Rattle.store_schema.specs.Forms.{HasHoldForms}
use Rattle.terms.proofs.Each.{recursion_front, recursion_back}
use Rattle.machine_laws.proofs.Printable.{operands_printable}
use Rattle.machine_laws.proofs.StatementForms.{hold_formed}

-- an external hold of its forms, or a release, which nothing keeps
abbrev pub IsHoldItem : HoldItem → Type 0
IsHoldItem (AHold h) = HasHoldForms h × (h.internal ≡ false)
IsHoldItem (ARelease r) = Unit {0}

item_formed : (records : Lines) (p : Parts) (item : HoldItem) → HasParts records p
    → HasItem p.word p.own p.rest item → IsWithin item → AllByRecursion IsRecord records → IsHoldItem item
item_formed records p (AHold h) known (operands, are, says) within each = (
  hold_formed p.own operands h says.1 within (operands_printable records p operands known are each),
  says.2,
)
item_formed records p (ARelease r) known has within each = tt

items_formed : (items : List HoldItem) (n : ℕ) (records : Lines) (m : ℕ) → AllByRecursion IsRecord records
    → BeginsWithItems n records items m [] → AllByRecursion IsHoldItem items
items_formed [] n records m each begins = tt
items_formed (item ∷ items) n records m each (group, next, later, takes, (p, known, stands, has, within), more) =
    let parts = subst (λ rs. AllByRecursion IsRecord rs) takes.records_are each in
    let inside = recursion_front IsRecord group.records later parts in (
      item_formed group.records p item known has within inside,
      items_formed items next later m (recursion_back IsRecord group.records later parts) more,
    )

-- each item of a hold file has its forms, and each of its holds is external
pub hold_file_formed : (bytes : List ℕ) (items : List HoldItem) → IsHoldFile bytes items
    → AllByRecursion IsHoldItem items
hold_file_formed bytes items (records, m, has, begins) = items_formed items 1 records m
    (recursion_from_All IsRecord records has.each) begins
