-- What the answer means.
use Rattle.std.specs.Prelude.{◌≡◌, ◌↔◌, [], Contains}
use Rattle.terms.specs.Types.{Text, NamedZone}
use Rattle.terms.specs.Choice.{counting}
use Rattle.terms.specs.Closed.{AreClosed}
use Rattle.store_schema.specs.Inventory.{Inventory, IsInventory}
use Rattle.smpe_verify.specs.declared.breach.Breach.{Breach}
use Rattle.smpe_verify.specs.declared.verification.Verification.TheVariants.{Broken}
use Rattle.smpe_verify.specs.Breaks.{Breaks}
use Rattle.smpe_verify.specs.Verified.{verification}
use Rattle.smpe_verify.specs.Telling.{status_of}

-- The status is 0 if and only if all zones are closed.
abbrev pub VerifiedIsClosed : Type 0
VerifiedIsClosed =
    (i : Inventory) → IsInventory i → (status_of (verification i) ≡ 0) ↔ AreClosed i.global i.zones

-- A breach that is told is one, in the zone of that name.
abbrev pub ToldIsBroken : Type 0
ToldIsBroken =
    (i : Inventory) → IsInventory i → (name : Text) (b : Breach) → verification i ≡ Broken name b
    → (z : NamedZone) × Contains i.zones z × (z.name ≡ name) × Breaks i.global (counting i.global z.zone []) z.zone b
