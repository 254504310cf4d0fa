-- Edits of what the tables hold, one after the other.
use Rattle.std.proofs.Common.{◌≡◌, ◌+◌, ◌<◌, ◌≤◌, ℕ, List, fold, take, length, get_or, arith, sym, ap, subst, ◌∙◌}
use Rattle.std.proofs.lemmas.List.{take_all}
use Rattle.std.proofs.lemmas.List.Sums.{fold_more}
use Rattle.sqlite.specs.Store.{Ghosts}
use Rattle.sqlite.specs.Held.{Held}
use Rattle.store_rows.specs.Inside.{StaysInside, Turns}
use Rattle.store_rows.specs.Rows.{Contents, HasContents}
use Rattle.store_rows.proofs.InsideLemmas.{turns_then}
use Rattle.store_schema.specs.Tables.{store_schema}

module _ {S X : Type 0} (g : Ghosts S) (edit : Contents → X → Contents) (items : List X) (i : ℕ) where
  -- the tables hold what the first edits make of it
  abbrev pub Edited : Held S → Held S → Type 0
  Edited a b = Turns g a b (HasContents store_schema) (λ contents. fold edit contents (take i items))

  pub edited_more : (item : X) (a b c : Held S) → i < length items → item ≡ get_or items i item → StaysInside g b c
      → Edited a b → Turns g b c (HasContents store_schema) (λ contents. edit contents item)
      → Turns g a c (HasContents store_schema) (λ contents. fold edit contents (take (i + 1) items))
  edited_more item a b c within at inside one two clean contents was =
      let is : fold edit contents (take (i + 1) items) ≡ edit (fold edit contents (take i items)) item =
      fold_more edit contents items i item within ∙ ap (edit (fold edit contents (take i items))) (sym at) in
      subst (λ held. HasContents store_schema held (Rattle.sqlite.specs.Held.state g c).now) (sym is)
      (turns_then g a b c (HasContents store_schema) (λ held. fold edit held (take i items)) (λ held. edit held item)
      inside one two clean contents was)

  pub edited_all : (a b : Held S) → length items ≤ i → Edited a b
      → Turns g a b (HasContents store_schema) (λ contents. fold edit contents items)
  edited_all a b end h =
      subst (λ xs. Turns g a b (HasContents store_schema) (λ contents. fold edit contents xs))
      (take_all i items (omega (arith, end))) h
