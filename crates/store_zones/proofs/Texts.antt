-- What the texts mean.
use Rattle.std.proofs.Common.{refl, arith}
use Rattle.sqlite.specs.Listing.{understood}
use Rattle.sqlite_tied.specs.Compute.{everything}
use Rattle.sqlite_schema.specs.Names.{same_name}
use Rattle.sqlite_value.specs.Keys.{joined}
use Rattle.store_rows.specs.Calls.{many}
use Rattle.store_rows.specs.Texts.{PutsIn, PutsByKey, DeletesByKey}
use Rattle.store_schema.specs.Tables.{store_schema, zone, entry, chosen, zelem}
use Rattle.store_zones.specs.Chosen.{upsert_chosen, delete_chosen, insert_chosen, insert_numbers}
use Rattle.store_zones.specs.Elements.{upsert_element, delete_element, insert_element, insert_elements}
use Rattle.store_zones.specs.Entries.{upsert_entry, delete_entry, insert_entry, insert_entries}
use Rattle.store_zones.specs.Heads.{insert_zone}
use Rattle.store_rows.proofs.Meant.{puts_in, puts_by_key, takes_out}

pub puts_zone : PutsIn store_schema 6 zone 1 insert_zone
unfolding understood everything
puts_zone = puts_in refl refl refl (refl, refl) refl refl

pub adds_entry : PutsIn store_schema 7 entry 1 insert_entry
unfolding understood everything
adds_entry = puts_in refl refl refl (refl, refl) refl refl

pub adds_entries : PutsIn store_schema 7 entry many insert_entries
unfolding understood everything
adds_entries = puts_in refl refl refl (refl, refl) refl refl

pub puts_entry : PutsByKey store_schema 7 entry 2 upsert_entry
unfolding understood everything
puts_entry = puts_by_key refl refl refl (refl, refl) refl refl refl refl refl (omega arith) (λ olds news. refl)

pub takes_entry : DeletesByKey store_schema 7 entry 2 delete_entry
unfolding understood everything same_name joined
takes_entry = takes_out refl refl refl (refl, refl) (omega arith) (λ olds. refl)

pub adds_chosen : PutsIn store_schema 12 chosen 1 insert_chosen
unfolding understood everything
adds_chosen = puts_in refl refl refl (refl, refl) refl refl

pub adds_numbers : PutsIn store_schema 12 chosen many insert_numbers
unfolding understood everything
adds_numbers = puts_in refl refl refl (refl, refl) refl refl

pub puts_chosen : PutsByKey store_schema 12 chosen 2 upsert_chosen
unfolding understood everything
puts_chosen = puts_by_key refl refl refl (refl, refl) refl refl refl refl refl (omega arith) (λ olds news. refl)

pub takes_chosen : DeletesByKey store_schema 12 chosen 2 delete_chosen
unfolding understood everything same_name joined
takes_chosen = takes_out refl refl refl (refl, refl) (omega arith) (λ olds. refl)

pub adds_element : PutsIn store_schema 8 zelem 1 insert_element
unfolding understood everything
adds_element = puts_in refl refl refl (refl, refl) refl refl

pub adds_elements : PutsIn store_schema 8 zelem many insert_elements
unfolding understood everything
adds_elements = puts_in refl refl refl (refl, refl) refl refl

pub puts_element : PutsByKey store_schema 8 zelem 3 upsert_element
unfolding understood everything
puts_element = puts_by_key refl refl refl (refl, refl) refl refl refl refl refl (omega arith) (λ olds news. refl)

pub takes_element : DeletesByKey store_schema 8 zelem 3 delete_element
unfolding understood everything same_name joined
takes_element = takes_out refl refl refl (refl, refl) (omega arith) (λ olds. refl)
