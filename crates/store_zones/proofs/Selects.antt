-- What the texts mean that read, under each schema that has their tables.
use Rattle.std.proofs.Common.{◌≡◌, refl}
use Rattle.std.specs.Prelude.{⊤}
use Rattle.std.proofs.Math.Dec.{lit≤}
use Rattle.sqlite.specs.Listing.{understood}
use Rattle.sqlite_tied.specs.Compute.{everything}
use Rattle.store_rows.proofs.Meant.{reads_all, reads_of_one}
use Rattle.store_schema.specs.declared.schema.Schema.TheVariants.{Third}
use Rattle.store_schema.specs.Tables.{zone, entry, zelem, chosen}
use Rattle.store_schema.proofs.Asks.{Asks, asks_each, asks_third}
use Rattle.store_zones.specs.Chosen.{select_chosen}
use Rattle.store_zones.specs.Elements.{select_elements}
use Rattle.store_zones.specs.Entries.{select_entries}
use Rattle.store_zones.specs.Heads.{select_zones, select_zone}

pub zones : Asks (λ r. ⊤) 6 zone 0 select_zones
unfolding understood everything
zones =
    asks_each (λ more. reads_all refl (refl, refl) refl (lit≤ tt) refl refl) (record { found = refl; alone = refl })
    (record { found = refl; alone = refl }) (record { found = refl; alone = refl }) refl

pub named : Asks (λ r. ⊤) 6 zone 1 select_zone
unfolding understood everything
named =
    asks_each (λ more. reads_of_one refl (refl, refl) refl (lit≤ tt) refl (λ t. refl) (lit≤ tt))
    (record { found = refl; alone = refl }) (record { found = refl; alone = refl })
    (record { found = refl; alone = refl }) refl

pub entries : Asks (λ r. ⊤) 7 entry 1 select_entries
unfolding understood everything
entries =
    asks_each (λ more. reads_of_one refl (refl, refl) refl (lit≤ tt) refl (λ t. refl) (lit≤ tt))
    (record { found = refl; alone = refl }) (record { found = refl; alone = refl })
    (record { found = refl; alone = refl }) refl

pub elements : Asks (λ r. ⊤) 8 zelem 1 select_elements
unfolding understood everything
elements =
    asks_each (λ more. reads_of_one refl (refl, refl) refl (lit≤ tt) refl (λ t. refl) (lit≤ tt))
    (record { found = refl; alone = refl }) (record { found = refl; alone = refl })
    (record { found = refl; alone = refl }) refl

pub numbers : Asks (λ r. r ≡ Third) 12 chosen 1 select_chosen
unfolding understood everything
numbers =
    asks_third (reads_of_one refl (refl, refl) refl (lit≤ tt) refl (λ t. refl) (lit≤ tt))
    (record { found = refl; alone = refl }) refl
