-- How changes of the list of holds are undone.
use Rattle.std.specs.Prelude.{◌≡◌, Bool, true, false, List, [], ◌∷◌, filter, not, IsSome}
use Rattle.std.specs.BTreeMap.{is_at}
use Rattle.terms.specs.Types.{Hold}
use Rattle.terms.specs.Global.{hold_cmp}
use Rattle.terms.specs.Rising.{with_item}
use Rattle.sysmods.specs.declared.undo.Undo.{Undo}
use Rattle.sysmods.specs.declared.undo.Undo.TheVariants.{Remove, Restore}
use Rattle.sysmods.specs.Keys.{key_of, key_cmp}
use Rattle.sysmods.specs.Lists.{held}

abbrev pub is_restoring : Undo → Bool
is_restoring (Remove key) = false
is_restoring (Restore h) = true

-- It makes the old list of the new one. It puts a hold back only in place of one of the same key.
abbrev pub Undoes : List Hold → List Hold → Undo → Type 0
Undoes old new (Remove key) = old ≡ filter (λ h. not (is_at (key_cmp key) (key_of h))) new
Undoes old new (Restore h) = IsSome (held new h.id h.kind h.reason) × (old ≡ with_item hold_cmp (λ o. o) new h)

-- The changes, the last one first, make the old list of the new one.
abbrev pub UndoesAll : List Hold → List Hold → List Undo → Type 0
UndoesAll old new [] = new ≡ old
UndoesAll old new (u ∷ us) = (mid : List Hold) × Undoes old mid u × UndoesAll mid new us
