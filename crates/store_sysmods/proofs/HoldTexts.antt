-- What the texts mean that write.
use Rattle.std.proofs.Common.{refl, arith}
use Rattle.sqlite.specs.Listing.{understood}
use Rattle.sqlite_tied.specs.Compute.{everything}
use Rattle.sqlite_schema.specs.Names.{same_name}
use Rattle.sqlite_value.specs.Keys.{joined}
use Rattle.store_rows.specs.Texts.{PutsByKey, DeletesByKey}
use Rattle.store_rows.proofs.Meant.{puts_by_key, takes_out}
use Rattle.store_schema.specs.Tables.{store_schema, hold}
use Rattle.store_sysmods.specs.Holds.{upsert_hold, delete_hold}

pub puts_hold : PutsByKey store_schema 4 hold 3 upsert_hold
unfolding understood everything
puts_hold = puts_by_key refl refl refl (refl, refl) refl refl refl refl refl (omega arith) (λ olds news. refl)

pub takes_hold : DeletesByKey store_schema 4 hold 3 delete_hold
unfolding understood everything same_name joined
takes_hold = takes_out refl refl refl (refl, refl) (omega arith) (λ olds. refl)
