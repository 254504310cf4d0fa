-- The table of holds.
use Rattle.std.specs.Prelude.{ℕ, List, [], ◌∷◌}
use Rattle.sqlite.specs.declared.types.Value.TheVariants as value
use Rattle.sqlite.specs.Order.{Row}
use Rattle.terms.specs.declared.kinds.HoldKind.{HoldKind}
use Rattle.terms.specs.Types.{Id, Text, Hold}
use Rattle.terms.specs.Spelling.{hold_text}
use Rattle.store_rows.specs.Calls.{Call}
use Rattle.store_schema.specs.Rows.{hold_row}
use Rattle.store_sysmods.specs.declared.hold.TheConstants.{SELECT, UPSERT, DELETE}

abbrev pub select_holds : List ℕ
select_holds = SELECT.now

abbrev pub upsert_hold : List ℕ
upsert_hold = UPSERT.now

abbrev pub delete_hold : List ℕ
delete_hold = DELETE.now

-- the key of a hold as columns
abbrev pub key_row : Id → HoldKind → Text → Row
key_row id kind reason = value.Text id ∷ value.Text (hold_text kind) ∷ value.Text reason ∷ []

abbrev pub hold_key : Hold → Row
hold_key h = key_row h.id h.kind h.reason

-- a hold is put in place of the one that has its key
abbrev pub upsert_hold_calls : Hold → List Call
upsert_hold_calls h = (upsert_hold, hold_row h) ∷ []

abbrev pub remove_hold_calls : Id → HoldKind → Text → List Call
remove_hold_calls id kind reason = (delete_hold, key_row id kind reason) ∷ []
