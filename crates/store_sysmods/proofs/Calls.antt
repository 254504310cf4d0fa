-- The removal of a SYSMOD, whose children go first.
use Rattle.std.proofs.Common.{◌≡◌, ℕ, List, [], ◌∷◌, Bool, true, false, arith, refl, ap}
use Rattle.sqlite.specs.Store.{Ghosts}
use Rattle.sqlite.specs.Held.{Held, state}
use Rattle.sqlite.specs.State.{HasCleanDisk}
use Rattle.sqlite.specs.Order.{Row}
use Rattle.terms.specs.Types.{Id}
use Rattle.store_rows.specs.Inside.{StaysInside, Turns}
use Rattle.store_rows.specs.Rows.{Contents, HasContents, HaveNone, in_table, has_key, without}
use Rattle.store_schema.specs.Tables.{store_schema, sysmod}
use Rattle.store_sysmods.specs.Sysmods.{sysmod_key, sysmod_children, without_rows, without_sysmod_rows}

-- what is gone is not there to go once more
pub without_twice : (key : Row) (rows : List Row) → without key (without key rows) ≡ without key rows
without_twice key [] = refl
without_twice key (r ∷ rows) = go (has_key key r) refl (without_twice key rows)
  where
    go : (b : Bool) → has_key key r ≡ b → without key (without key rows) ≡ without key rows
        → without key (without key (r ∷ rows)) ≡ without key (r ∷ rows)
    go true e later = rw e later
    go false e later = rw (e, e) (ap (λ rest. r ∷ rest) later)

none_left : (id : Id) (contents : Contents)
    → HaveNone sysmod_children (sysmod_key id) (without_rows sysmod_children id contents)
none_left id contents =
    let twice = λ (tree : ℕ). without_twice (sysmod_key id) (contents tree) in
    (twice 4, (twice 6, (twice 10, (twice 18, (twice 20, (twice 22, tt))))))

module _ {S : Type 0} (g : Ghosts S) where
  -- a parent is taken out whose children are gone
  abbrev pub Removes : Held S → Held S → Row → Type 0
  Removes a b key =
      HasCleanDisk (state g b) → (contents : Contents) → HaveNone sysmod_children key contents
      → HasContents store_schema contents (state g a).now
      → HasContents store_schema (in_table sysmod (without key) contents) (state g b).now

  pub all_removed : (a b c : Held S) (id : Id) → StaysInside g b c
      → Turns g a b (HasContents store_schema) (without_rows sysmod_children id) → Removes b c (sysmod_key id)
      → Turns g a c (HasContents store_schema) (without_sysmod_rows id)
  all_removed a b c id inside children parent clean contents was =
      parent clean (without_rows sysmod_children id contents) (none_left id contents)
      (children (omega (arith, inside.survives.clean)) contents was)
