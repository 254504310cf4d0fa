-- Zones that are read one after the other.
use Rattle.std.proofs.Common.{◌≡◌, ◌<◌, ◌≤◌, ◌+◌, ℕ, inl, inr, Bool}
use Rattle.std.proofs.Common.{true, false, List, [], ◌∷◌, ◌++◌, map, take, length}
use Rattle.std.proofs.Common.{get_or, Option, Some, None, Result, Ok, refl, sym, ap, subst, ◌∙◌, arith}
use Rattle.std.specs.Prelude.{IsSome, IsTrue, find, option_map}
use Rattle.std.specs.List.{AllByRecursion}
use Rattle.std.specs.Str.{bytes_eq}
use Rattle.std.proofs.lemmas.List.{map-append, take_more, take_all}
use Rattle.terms.proofs.Each.{recursion_append}
use Rattle.terms.proofs.TextOrder.{same_itself}
use Rattle.sqlite.specs.Held.{Held, state}
use Rattle.sqlite.specs.Schema.{Schema as SqliteSchema}
use Rattle.sqlite.specs.State.{HasCleanDisk}
use Rattle.sqlite.specs.Store.{Ghosts}
use Rattle.sqlite.proofs.StateLemmas.{unchanged}
use Rattle.sqlite_rules.specs.Lists.{Has}
use Rattle.sqlite_rules.proofs.ListLemmas.{has_kept, has_contained}
use Rattle.store_rows.specs.declared.error.ReadError.{ReadError}
use Rattle.store_rows.specs.declared.error.ReadError.TheVariants.{BadRow, Fault}
use Rattle.store_rows.specs.Reads.{OnlyReads}
use Rattle.store_rows.proofs.InsideLemmas.{stays}
use Rattle.store_rows.specs.Rows.{Contents, has_key}
use Rattle.store_rows.proofs.Keys.{equals, and_true}
use Rattle.store_rows.proofs.RowLemmas.{has_permuted, mapped, unmapped}
use Rattle.terms.specs.Types.{Zone, NamedZone}
use Rattle.store_schema.specs.declared.schema.Schema.{Schema}
use Rattle.store_schema.specs.Inventory.{Inventory}
use Rattle.store_schema.specs.Tables.{zone}
use Rattle.store_zones.proofs.Heads.{same_head}
use Rattle.store_zones.specs.declared.head.ZoneHead.{ZoneHead}
use Rattle.store_zones.specs.Found.{head_of, zone_in}
use Rattle.store_zones.specs.Held.{name_key, rows_named, HoldsZone, HoldsUnder, HoldsNumbers, HoldsHeads}
use Rattle.store_zones.specs.Heads.{head_row}
use Rattle.store.specs.Whole.{HoldsZones}

-- nothing failed
abbrev pub done : Result (Unit {0}) ReadError
done = Ok (tt {0})

-- before anything was read
pub reads_none : {S : Type 0} (g : Ghosts S) (schema : SqliteSchema) (at : Held S)
    → (HasCleanDisk (state g at) → IsTrue (state g at).is_open) → OnlyReads g schema BadRow Fault at at done
reads_none g schema at is_open = record {
  same = λ clean. unchanged (state g at) (is_open clean);
  bad = λ clean it. absurd cc;
  cause = λ clean it. absurd cc;
  kept = λ clean. (stays g at).kept clean;
  crash = (stays g at).survives;
  mode = λ outside. outside;
}

-- these are the zones of the first heads
pub record HoldsFirst (r : Schema) (c : Contents) (heads : List ZoneHead) (zones : List NamedZone) : Type 0 where
  pub are : map head_of zones ≡ heads
  pub each : AllByRecursion (HoldsZone c) zones
  pub numbers : AllByRecursion (HoldsNumbers r c) zones

pub first_none : (r : Schema) (c : Contents) → HoldsFirst r c [] []
first_none r c = record { are = refl; each = tt; numbers = tt }

-- the row of a head is among those that have its name
row_named : (c : Contents) (heads : List ZoneHead) (head : ZoneHead) → HoldsHeads c heads → Has heads head
    → Has (rows_named head.name zone c) (head_row head)
row_named c heads head h there =
    let named : has_key (name_key head.name) (head_row head) ≡ true =
    and_true _ ∙ (equals head.name head.name ∙ same_itself head.name) in
    has_kept (has_key (name_key head.name)) (c zone.tree) (head_row head)
    (has_permuted _ _ (head_row head) h.rows (mapped head_row heads head there)) named

-- a zone that was read by the name of a head has it
has_head : (c : Contents) (heads : List ZoneHead) (head : ZoneHead) (z : Zone) → HoldsHeads c heads → Has heads head
    → HoldsZone c (record { name = head.name; zone = z }) → head_of (record { name = head.name; zone = z }) ≡ head
has_head c heads head z h there own =
    elim (subst (λ rows. Has rows (head_row head)) own.head (row_named c heads head h there)) [
      | inl same ↦ sym (same_head head (head_of (record { name = head.name; zone = z })) same)
      | inr none ↦ absurd none
    ]

pub first_more : (r : Schema) (c : Contents) (heads : List ZoneHead) (i : ℕ) (head : ZoneHead)
    (zones : List NamedZone) (z : Zone) → i < length heads → head ≡ get_or heads i head → HoldsHeads c heads
    → HoldsFirst r c (take i heads) zones → HoldsUnder r c head.name (Some z)
    → HoldsFirst r c (take (i + 1) heads) (zones ++ record { name = head.name; zone = z } ∷ [])
first_more r c heads i head zones z within at all first own =
    let named : NamedZone = record { name = head.name; zone = z } in
    let there = has_contained heads head (i, within, sym at) in
    let is = has_head c heads head z all there own.1 in
    record {
      are = map-append head_of zones (named ∷ []) ∙ (ap (λ l. l ++ head_of named ∷ []) first.are
          ∙ (ap (λ x. take i heads ++ x ∷ []) (is ∙ at) ∙ sym (take_more heads i head within)));
      each = recursion_append (HoldsZone c) zones (named ∷ []) first.each (own.1, tt);
      numbers = recursion_append (HoldsNumbers r c) zones (named ∷ []) first.numbers (own.0, tt);
    }

-- one that was looked for by the name of a head is there
pub first_found : (r : Schema) (c : Contents) (heads : List ZoneHead) (i : ℕ) (head : ZoneHead)
    (zones : List NamedZone) (found : Option Zone) → i < length heads → head ≡ get_or heads i head → HoldsHeads c heads
    → HoldsFirst r c (take i heads) zones → HoldsUnder r c head.name found
    → (all : List NamedZone) × HoldsFirst r c (take (i + 1) heads) all
first_found r c heads i head zones None within at all first own =
    absurd (subst (λ rows. Has rows (head_row head)) own
    (row_named c heads head all (has_contained heads head (i, within, sym at))))
first_found r c heads i head zones (Some z) within at all first own = (
  zones ++ record { name = head.name; zone = z } ∷ [],
  first_more r c heads i head zones z within at all first own,
)

pub first_all : (r : Schema) (c : Contents) (heads : List ZoneHead) (i : ℕ) (zones : List NamedZone)
    → length heads ≤ i → HoldsHeads c heads → HoldsFirst r c (take i heads) zones → HoldsZones r c zones
first_all r c heads i zones end all first = record {
  heads = subst (HoldsHeads c) (sym (first.are ∙ take_all i heads (omega (arith, end)))) all;
  each = first.each;
  numbers = first.numbers;
}

-- a zone of an inventory is found by its name
found_named : (zones : List NamedZone) (z : NamedZone) → Has zones z
    → IsSome (find (λ w. bytes_eq w.name z.name) zones)
found_named [] z there = absurd there
found_named (w ∷ zones) z (inl same) = rw (ap (λ (n : NamedZone). bytes_eq n.name z.name) (sym same)
    ∙ same_itself z.name) refl
found_named (w ∷ zones) z (inr later) = by (bytes_eq w.name z.name) refl (found_named zones z later)
  where
    by : (b : Bool) → bytes_eq w.name z.name ≡ b → IsSome (find (λ n. bytes_eq n.name z.name) zones)
        → IsSome (find (λ n. bytes_eq n.name z.name) (w ∷ zones))
    by true e rest = rw e refl
    by false e rest = rw e rest

mapped_some : {X Y : Type 0} (f : X → Y) (o : Option X) → IsSome o → IsSome (option_map f o)
mapped_some f None h = h
mapped_some f (Some x) h = refl

pub head_found : (i : Inventory) (heads : List ZoneHead) (k : ℕ) (head : ZoneHead) → k < length heads
    → head ≡ get_or heads k head → heads ≡ map head_of i.zones → IsSome (zone_in i head.name)
head_found i heads k head within at are =
    let it = unmapped head_of i.zones head
    (subst (λ hs. Has hs head) are (has_contained heads head (k, within, sym at))) in
    subst (λ (h : ZoneHead). IsSome (zone_in i h.name)) (sym it.2)
    (mapped_some (λ (z : NamedZone). z.zone) _ (found_named i.zones it.0 it.1))
