-- Edits of a list that rises by a key: what they put and remove.
use Rattle.std.specs.Prelude.{ℕ, Bool, Option, None, Some, List, find, fold}
use Rattle.std.specs.declared.cmp.Ordering.{Ordering}
use Rattle.std.specs.Option.{option_map_or}
use Rattle.sorted.specs.declared.edits.Edit.{Edit}
use Rattle.sorted.specs.declared.edits.Edit.TheVariants.{Put, Remove}
use Rattle.terms.specs.Rising.{with_item, without_key}

-- the key at which the edit changes something
abbrev pub edit_key : {X K : Type 0} → (X → K) → Edit X K → K
edit_key key (Put x) = key x
edit_key key (Remove k) = k

-- the item that an edit leaves at its key
abbrev pub edit_put : {X K : Type 0} → Edit X K → Option X
edit_put (Put x) = Some x
edit_put (Remove k) = None

-- the list after an edit
abbrev pub after_edit : {X K : Type 0} → (K → K → Ordering) → (X → K) → List X → Edit X K → List X
after_edit cmp key xs (Put x) = with_item cmp key xs x
after_edit cmp key xs (Remove k) = without_key cmp key xs k

-- the list after one edit and the next
abbrev pub edited : {X K : Type 0} → (K → K → Ordering) → (X → K) → List X → List (Edit X K) → List X
edited cmp key xs edits = fold (after_edit cmp key) xs edits

-- the item at a key after the edits: the one that an edit of that key leaves there, or otherwise the one that was there
abbrev pub after_edits : {X K : Type 0} → (K → K → Bool) → (X → K) → List (Edit X K) → List X → K → Option X
after_edits eq key edits old k =
    option_map_or edit_put (find (λ e. eq (edit_key key e) k) edits) (find (λ x. eq (key x) k) old)

-- edits that can be made of a table, and the number of items for which there is room
pub record PreparedEdits (X K : Type 0) : Type 0 where
  pub edits : List (Edit X K)
  pub room : ℕ
