-- The map of holds, and the list that it stands for.
use Rattle.std.proofs.Common.{◌≡◌, ◌&&◌, ◌∙◌, Bool, true, not, List, [], ◌∷◌, refl, sym, ap, None, Some, filter}
use Rattle.std.proofs.Common.{true≢false}
use Rattle.std.specs.declared.cmp.Ordering.{Ordering}
use Rattle.std.specs.declared.cmp.Ordering.TheVariants.{Less, Equal, Greater}
use Rattle.std.specs.Ordering.{is_eq, is_le, nat_cmp, ordering_then}
use Rattle.std.specs.declared.ops.Bound.TheVariants.{Included, Excluded, Unbounded}
use Rattle.std.specs.BTreeMap.Range.{range_contains, entries_between}
use Rattle.std.specs.Cmp.Lexicographic.{slice_cmp}
use Rattle.std.specs.Cmp.{unsigned_ties}
use Rattle.std.specs.Str.{bytes_eq}
use Rattle.std.specs.List.Sorted.{IsStrictlySortedBy}
use Rattle.std.specs.Map.{lookup, remove_entry, keys_of, values_of}
use Rattle.std.specs.BTreeMap.{insert_entry, is_at}
use Rattle.std.proofs.lemmas.Map.Text.{is_eq-slice_cmp}
use Rattle.std.proofs.lemmas.Bool.{and_parts}
use Rattle.terms.specs.declared.kinds.HoldKind.{HoldKind}
use Rattle.terms.specs.Types.{Text, Id, Hold, hold_number}
use Rattle.terms.specs.Global.{has_key, hold_cmp}
use Rattle.sysmods.specs.KeyedMaps.{KnowKeys}
use Rattle.terms.specs.Rising.{Rises, with_item}
use Rattle.terms.proofs.TextOrder.{same_from, same_back}
use Rattle.terms.proofs.GlobalKept.{kind_from}
use Rattle.terms.proofs.HoldOrder.{has_key_ties, number_back}
use Rattle.terms.proofs.Orderings.{is_eq_then}
use Rattle.sysmods.proofs.KeyedMaps as keyed
use Rattle.sysmods.specs.declared.key.HoldPlace.{HoldPlace}
use Rattle.sysmods.specs.declared.key.HoldPlace.TheVariants.{First, At, Last}
use Rattle.sysmods.specs.declared.key.HoldKey.{HoldKey}
use Rattle.sysmods.specs.Keys.{key_of, key_cmp, key_cmp_total, place_cmp, before_kind, behind_kind, IsByKey}
use Rattle.sysmods.specs.Lists.{held, is_on}

-- the entries of the map
abbrev pub Entries : Type 0
Entries = List (HoldKey × Hold)

abbrev pub key : Id → HoldKind → Text → HoldKey
key x kind reason = record { id = x; kind = kind; place = At reason }

-- keys that compare alike are one
exact_place : (a b : HoldPlace) → is_eq (place_cmp a b) ≡ true → a ≡ b
exact_place First First e = refl
exact_place First (At b) e = absurd (true≢false (sym e))
exact_place First Last e = absurd (true≢false (sym e))
exact_place (At a) First e = absurd (true≢false (sym e))
exact_place (At a) (At b) e = ap (λ r. At r) (same_from a b (sym (is_eq-slice_cmp a b) ∙ e))
exact_place (At a) Last e = absurd (true≢false (sym e))
exact_place Last First e = absurd (true≢false (sym e))
exact_place Last (At b) e = absurd (true≢false (sym e))
exact_place Last Last e = refl

one_key : (a b : HoldKey) → a.id ≡ b.id → a.kind ≡ b.kind → a.place ≡ b.place → a ≡ b
one_key a b i k p =
    ap (λ x. record { id = x; kind = a.kind; place = a.place }) i
    ∙ ap (λ x. record { id = b.id; kind = x; place = a.place }) k
    ∙ ap (λ x. record { id = b.id; kind = b.kind; place = x }) p

pub exact_keys : (a b : HoldKey) → key_cmp a b ≡ Equal → a ≡ b
exact_keys a b e =
    let ids = slice_cmp nat_cmp a.id b.id in
    let kinds = nat_cmp (hold_number a.kind) (hold_number b.kind) in
    let places = place_cmp a.place b.place in
    let first = and_parts (is_eq ids) (is_eq (ordering_then kinds places))
    (sym (is_eq_then ids (ordering_then kinds places)) ∙ ap is_eq e) in
    let second = and_parts (is_eq kinds) (is_eq places) (sym (is_eq_then kinds places) ∙ first.1) in
    one_key a b
    (same_from a.id b.id (sym (is_eq-slice_cmp a.id b.id) ∙ first.0))
    (kind_from a.kind b.kind (unsigned_ties (hold_number a.kind) (hold_number b.kind) ∙ second.0))
    (exact_place a.place b.place second.1)

module _ (es : Entries) (m : IsByKey es) where
  -- the list rises
  pub rising : Rises hold_cmp (λ h. h) (values_of es)
  rising = keyed.Rises_values key_cmp_total key_of es m.known m.sorted

  -- what stands at a key
  pub found : (x : Id) (kind : HoldKind) (reason : Text) → lookup (is_at (key_cmp (key x kind reason))) es ≡ held
      (values_of es) x kind reason
  found x kind reason =
      keyed.lookup_values key_cmp_total key_of (is_at (key_cmp (key x kind reason))) (has_key x kind reason)
      (has_key_ties x kind reason) es m.known

  -- a hold comes in
  pub put : (h : Hold) (fs : Entries) → fs ≡ insert_entry key_cmp es (key_of h) h
      → IsStrictlySortedBy key_cmp (keys_of fs) → IsByKey fs
  put h fs is sorted = record {
    known = rw is (keyed.KnowKeys_insert_entry key_cmp_total key_of es h (exact_keys (key_of h)) m.known);
    sorted = sorted;
  }

  pub listed_put : (h : Hold) → values_of (insert_entry key_cmp es (key_of h) h) ≡ with_item hold_cmp (λ o. o)
      (values_of es) h
  listed_put h = keyed.values_insert_entry key_cmp_total key_of es h m.known m.sorted

  -- a hold goes
  pub removed : (k : HoldKey) (fs : Entries) → fs ≡ remove_entry (is_at (key_cmp k)) es
      → IsStrictlySortedBy key_cmp (keys_of fs) → IsByKey fs
  removed k fs is sorted = record {
    known = rw is (keyed.KnowKeys_remove_entry key_cmp_total key_of (is_at (key_cmp k)) es m.known);
    sorted = sorted;
  }

  pub listed_removed : (k : HoldKey) (p : Hold → Bool) → ((h : Hold) → is_at (key_cmp k) (key_of h) ≡ p h)
      → values_of (remove_entry (is_at (key_cmp k)) es) ≡ filter (λ h. not (p h)) (values_of es)
  listed_removed k p ties = keyed.values_remove_entry key_cmp_total key_of k p ties es m.known m.sorted

  pub listed_released : (x : Id) (kind : HoldKind) (reason : Text)
      → values_of (remove_entry (is_at (key_cmp (key x kind reason))) es) ≡ filter (λ h. not (has_key x kind reason h))
      (values_of es)
  listed_released x kind reason = listed_removed (key x kind reason) (has_key x kind reason)
      (has_key_ties x kind reason)

-- what is found at a key has it
pub found_key : (es : Entries) → KnowKeys key_of es → (k : HoldKey) (old : Hold)
    → lookup (is_at (key_cmp k)) es ≡ Some old → key_of old ≡ k
found_key [] known k old some = absurd (none_some some)
  where
    none_some : None ≡ Some old → ⊥
    none_some e = cc
found_key (e ∷ es) known k old some = by (found_key es known.1 k old) (key_cmp k e.0) refl
  where
    by : (lookup (is_at (key_cmp k)) es ≡ Some old → key_of old ≡ k) → (c : Ordering) → key_cmp k e.0 ≡ c
        → key_of old ≡ k
    by again Less c = let rest = rw c at some in again rest
    by again Equal c = let here = rw c at some in let same : e.1 ≡ old = cc
        in ap key_of (sym same) ∙ known.0 ∙ sym (exact_keys k e.0 c)
    by again Greater c = let rest = rw c at some in again rest

-- ---- ranges

between_ends : (i n : Ordering) → (is_le (ordering_then i (ordering_then n Less)) && not
    (is_le (ordering_then i (ordering_then n Greater)))) ≡ (is_eq i && is_eq n)
between_ends Less n = refl
between_ends Greater n = refl
between_ends Equal Less = refl
between_ends Equal Equal = refl
between_ends Equal Greater = refl

on_kind : (x : Id) (kind : HoldKind) (h : Hold) → range_contains key_cmp (Included (before_kind x kind))
    (Excluded (behind_kind x kind)) (key_of h) ≡ is_on x kind h
on_kind x kind h =
    between_ends (slice_cmp nat_cmp x h.id) (nat_cmp (hold_number kind) (hold_number h.kind))
    ∙ ap (λ b. b && is_eq (nat_cmp (hold_number kind) (hold_number h.kind))) (is_eq-slice_cmp x h.id ∙ same_back x h.id)
    ∙ ap (λ b. bytes_eq h.id x && b) (number_back kind h.kind)

-- the holds of a kind on an id
pub listed_kind : (es : Entries) → IsByKey es → (x : Id) (kind : HoldKind)
    → values_of (entries_between key_cmp (Included (before_kind x kind)) (Excluded (behind_kind x kind)) es) ≡ filter
    (is_on x kind) (values_of es)
listed_kind es m x kind =
    keyed.values_filter key_cmp_total key_of (range_contains key_cmp (Included (before_kind x kind))
    (Excluded (behind_kind x kind))) (is_on x kind) (on_kind x kind) es m.known

-- all holds
pub listed_all : (es : Entries) → entries_between key_cmp Unbounded Unbounded es ≡ es
listed_all [] = refl
listed_all (e ∷ es) = ap (λ fs. e ∷ fs) (listed_all es)
