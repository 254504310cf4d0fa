-- The statement for the number of an entry, and what it makes of `chosen`.
use Rattle.std.proofs.Common.{◌≡◌, ◌==◌, ℕ, Bool, true, false, not, List, ◌++◌, Result, OnOk, if◌then◌else◌}
use Rattle.std.proofs.Common.{IsPermutation, refl, sym, ap, subst, ◌∙◌}
use Rattle.std.proofs.lemmas.Bool.{eqb-true}
use Rattle.std.proofs.lemmas.List.Sorted.{IsPermutation-sym, IsPermutation-trans, IsPermutation-cons}
use Rattle.sqlite.specs.Order.{Row}
use Rattle.sqlite.specs.Store.{Ghosts}
use Rattle.sqlite.specs.Held.{Held}
use Rattle.sqlite.specs.declared.error.Error.{Error}
use Rattle.terms.specs.Types.{Text, Id}
use Rattle.store_rows.specs.Calls.{RunsInside}
use Rattle.store_rows.specs.Inside.{Turns}
use Rattle.store_rows.specs.Rows.{HasContents, in_table, without}
use Rattle.store_schema.specs.Rows.{chosen_row}
use Rattle.store_schema.specs.Tables.{store_schema, chosen}
use Rattle.store_zones.specs.Calls.{number_calls}
use Rattle.store_zones.specs.Entries.{entry_key}
use Rattle.store_zones.specs.Zones.{numbered, rows_with}
use Rattle.store_zones.proofs.Numbers.{row_of}

module _ (name : Text) (id : Id) (old new : ℕ) where
  -- what becomes of the rows where the number stays, is 1, and was 1
  abbrev pub numbered_by : Bool → Bool → Bool → List Row → List Row
  numbered_by same first begun rows =
      if same then rows else if first then without (entry_key name id) rows
      else rows_with (not begun) (entry_key name id) (chosen_row name id new) rows

  is_numbered : (same first begun : Bool) → (new == old) ≡ same → (new == 1) ≡ first → (old == 1) ≡ begun
      → numbered_by same first begun ≡ numbered name id old new
  is_numbered same first begun is_same is_first was_first =
      sym (ap (λ b. numbered_by b (new == 1) (old == 1)) is_same ∙ ap (λ b. numbered_by same b (old == 1)) is_first
      ∙ ap (numbered_by same first) was_first)

  pub turns_number : {S X E : Type 0} (g : Ghosts S) (a b : Held S) (q : Result X E) (same first begun : Bool)
      → (new == old) ≡ same → (new == 1) ≡ first → (old == 1) ≡ begun
      → OnOk q (Turns g a b (HasContents store_schema) (in_table chosen (numbered_by same first begun)))
      → OnOk q (Turns g a b (HasContents store_schema) (in_table chosen (numbered name id old new)))
  turns_number g a b q same first begun is_same is_first was_first =
      subst (λ make. OnOk q (Turns g a b (HasContents store_schema) (in_table chosen make)))
      (is_numbered same first begun is_same is_first was_first)

  -- Rows that had the number's row, and have that of another: what the others are stays.
  pub renumbered : (olds news : List Row) → IsPermutation olds (row_of name id old ++ without (entry_key name id) olds)
      → IsPermutation news (row_of name id new ++ without (entry_key name id) olds)
      → IsPermutation news (numbered name id old new olds)
  renumbered olds news was is = by (new == old) refl (new == 1) refl (old == 1) refl
    where
      others : List Row
      others = without (entry_key name id) olds

      by : (same : Bool) → (new == old) ≡ same → (first : Bool) → (new == 1) ≡ first → (begun : Bool)
          → (old == 1) ≡ begun → IsPermutation news (numbered name id old new olds)
      by true same first is_first begun was_first =
          let olds_are = subst (λ n. IsPermutation olds (row_of name id n ++ others)) (sym (eqb-true new old same)) was
          in
          rw same (IsPermutation-trans _ _ _ is (IsPermutation-sym _ _ olds_are))
      by false same true is_first begun was_first = rw (same, is_first) (rw is_first at is)
      by false same false is_first true was_first =
          rw (same, is_first, was_first) (IsPermutation-trans _ _ _ (rw is_first at is)
          (IsPermutation-cons _ _ _ (IsPermutation-sym _ _ (rw was_first at was))))
      by false same false is_first false was_first = rw (same, is_first, was_first) (rw is_first at is)

module _ {S X : Type 0} (g : Ghosts S) (a b : Held S) (q : Result X Error) (name : Text) where
  -- the statement for the number ran, and `chosen` holds what it makes of it
  abbrev pub Renumbers : Id → ℕ → ℕ → Type 0
  Renumbers id old new =
      RunsInside g (number_calls name id old new) a b q
      × OnOk q (Turns g a b (HasContents store_schema) (in_table chosen (numbered name id old new)))

  -- the same of the numbers that were found
  pub renumbers_as : (id x : Id) (old m new n : ℕ) → id ≡ x → old ≡ m → new ≡ n → Renumbers id old new → Renumbers x m n
  renumbers_as id x old m new n is was becomes h =
      subst (λ y. Renumbers y m n) is (subst (λ k. Renumbers id k n) was (subst (Renumbers id old) becomes h))
