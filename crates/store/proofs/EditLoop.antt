-- A loop over edits, which stops at the first one that fails.
use Rattle.std.proofs.Common.{◌≡◌, ℕ, List, ◌<◌, ◌≤◌, ◌+◌, length, map, take, get_or, Result, Ok, IsErr, ap, ap₂, subst}
use Rattle.std.proofs.Common.{sym, ◌∙◌, arith}
use Rattle.std.specs.List.{flat_map, zip}
use Rattle.std.proofs.lemmas.List.{take_all, get_or-map}
use Rattle.std.proofs.lemmas.Slice.Zip.{length-zip, get_or-zip}
use Rattle.sqlite.specs.Store.{Ghosts}
use Rattle.sqlite.specs.Held.{Held}
use Rattle.sqlite.specs.declared.error.Error.{Error}
use Rattle.store_rows.specs.Calls.{Call, RunsInside}
use Rattle.store_rows.specs.Inside.{StaysInside}
use Rattle.store_rows.proofs.CallLemmas.{Follows, runs_item, runs_stop}

module _ {S X : Type 0} (g : Ghosts S) (f : X → List Call) (edits : List X) (i : ℕ) (old mid new : Held S) where
  -- the statements of the first edits
  abbrev pub RunsFirst : ℕ → Held S → Type 0
  RunsFirst n at = RunsInside g (flat_map f (take n edits)) old at {X = Unit {0}} (Ok (tt {0}))

  -- one edit more is written
  pub one_more : {q : Result (Unit {0}) Error} (edit : X) → i < length edits → edit ≡ get_or edits i edit
      → StaysInside g old mid → StaysInside g mid new → RunsFirst i mid → q ≡ Ok (tt {0})
      → RunsInside g (f edit) mid new q → RunsFirst (i + 1) new
  one_more edit within at one two before is runs =
      runs_item g f edits i edit old mid new (tt {0}) (Ok (tt {0})) within at one two before
      (subst (RunsInside g (f edit) mid new) is runs)

  -- one fails
  pub one_failed : {Y Z : Type 0} (q : Result Y Error) (r : Result Z Error) (edit : X) → i < length edits
      → edit ≡ get_or edits i edit → StaysInside g old mid → StaysInside g mid new → RunsFirst i mid → IsErr q
      → Follows q r → RunsInside g (f edit) mid new q → RunsInside g (flat_map f edits) old new r
  one_failed q r edit within at one two before failed follows runs =
      runs_stop g f edits i old new q r failed follows
      (runs_item g f edits i edit old mid new (tt {0}) q within at one two before runs)

-- all are written
pub all_written : {S X : Type 0} (g : Ghosts S) (f : X → List Call) (edits : List X) (i : ℕ) (old new : Held S)
    → length edits ≤ i → RunsFirst g f edits i old old new i new
    → RunsInside g (flat_map f edits) old new {X = Unit {0}} (Ok (tt {0}))
all_written g f edits i old new end runs =
    subst (λ l. RunsInside g (flat_map f l) old new {X = Unit {0}} (Ok (tt {0}))) (take_all i edits (omega (
      arith,
      end,
    )))
    runs

-- ---- edits beside what stood

module _ {X Y : Type 0} (edits : List X) (stood : List Y) (i : ℕ) (edit : X) (before : Y) (within : i < length edits)
    (at : (d : X) → edit ≡ get_or edits i d) where
  pub one_pair : i < length stood → ((d : Y) → before ≡ get_or stood i d)
      → (i < length (zip edits stood)) × ((edit, before) ≡ get_or (zip edits stood) i (edit, before))
  one_pair there stands = (
    omega (arith, length-zip edits stood, within, there),
    ap₂ (λ x y. (x, y)) (at edit) (stands before) ∙ sym (get_or-zip edits stood i (edit, before) within there),
  )

  -- it is what stood there, if all of it is
  pub known_at : (f : X → Y) → stood ≡ map f edits → ((d : Y) → before ≡ get_or stood i d) → f edit ≡ before
  known_at f known stands =
      ap f (at edit) ∙ sym (get_or-map f edits i edit (f edit) within)
      ∙ ap (λ ys. get_or ys i (f edit)) (sym known) ∙ sym (stands (f edit))
