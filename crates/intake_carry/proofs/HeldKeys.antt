-- The keys of holds, one more each time.
use Rattle.std.proofs.Common.{◌≡◌, ◌∙◌, ◌&&◌, ◌==◌, ◌<◌, ◌≤◌, ◌+◌, Bool, true, false, ℕ, List, [], ◌++◌, ◌∷◌, take}
use Rattle.std.proofs.Common.{length}
use Rattle.std.proofs.Common.{get_or, ap, sym, refl, subst, append_assoc, append-nil, cond}
use Rattle.std.specs.Prelude.{◌||◌}
use Rattle.std.specs.List.{flat_map, list_any}
use Rattle.std.specs.BTreeSet.{BTreeSet, contains, Updates}
use Rattle.std.specs.Ordering.{nat_cmp, ordering_then, is_eq}
use Rattle.std.specs.Cmp.{unsigned_ties}
use Rattle.std.specs.Cmp.Lexicographic.{slice_cmp}
use Rattle.std.specs.Str.{bytes_eq}
use Rattle.std.specs.BTreeMap.{is_at}
use Rattle.std.proofs.lemmas.List.{take_more, take_all}
use Rattle.std.proofs.lemmas.List.Folds.{list_any-append}
use Rattle.std.proofs.lemmas.Grind.{flat_map-append}
use Rattle.std.proofs.lemmas.Map.Text.{is_eq-slice_cmp}
use Rattle.terms.proofs.Booleans.{and_assoc}
use Rattle.terms.proofs.Orderings.{is_eq_then}
use Rattle.terms.specs.declared.kinds.HoldKind.{HoldKind}
use Rattle.terms.specs.declared.kinds.HoldKind.TheVariants.{Error, System, User}
use Rattle.terms.specs.contracts.kinds.HoldKindOrd.TheImpl as kind_order
use Rattle.terms.specs.Types.{Text, Id, Hold, hold_number}
use Rattle.terms.specs.Global.{has_key}
use Rattle.mcs.specs.declared.file.Item.{Item}
use Rattle.intake_carry.specs.Carried.{holds_of}
use Rattle.intake_carry.specs.Keys.{HoldKey, key_cmp, AreKeysOf}

abbrev pub hold_key : Hold → HoldKey
hold_key h = (h.id, (h.kind, h.reason))

-- the derived order of kinds
cmp_kinds : (a b : HoldKind) → kind_order.ghosts.cmp a b ≡ nat_cmp (hold_number a) (hold_number b)
cmp_kinds Error Error = refl
cmp_kinds System Error = refl
cmp_kinds User Error = refl
cmp_kinds a b = refl

-- the order finds a key just where the hold has it
key_ties : (h : Hold) (id : Id) (kind : HoldKind) (reason : Text)
    → is_eq (key_cmp (hold_key h) (id, (kind, reason))) ≡ has_key id kind reason h
key_ties h id kind reason =
    ap (λ o. is_eq (ordering_then (slice_cmp nat_cmp h.id id) (ordering_then o (slice_cmp nat_cmp h.reason reason))))
    (cmp_kinds h.kind kind)
    ∙ is_eq_then (slice_cmp nat_cmp h.id id) (ordering_then (nat_cmp (hold_number h.kind) (hold_number kind))
    (slice_cmp nat_cmp h.reason reason))
    ∙ ap (λ b. is_eq (slice_cmp nat_cmp h.id id) && b) (is_eq_then (nat_cmp (hold_number h.kind) (hold_number kind))
    (slice_cmp nat_cmp h.reason reason))
    ∙ ap (λ b. b && (is_eq (nat_cmp (hold_number h.kind) (hold_number kind)) && is_eq
    (slice_cmp nat_cmp h.reason reason))) (is_eq-slice_cmp h.id id)
    ∙ ap (λ b. bytes_eq h.id id && (b && is_eq (slice_cmp nat_cmp h.reason reason)))
    (sym (unsigned_ties (hold_number h.kind) (hold_number kind)))
    ∙ ap (λ b. bytes_eq h.id id && ((hold_number h.kind == hold_number kind) && b)) (is_eq-slice_cmp h.reason reason)
    ∙ and_assoc (bytes_eq h.id id) (hold_number h.kind == hold_number kind) (bytes_eq h.reason reason)

pub no_keys : (s : BTreeSet HoldKey) → s.keys ≡ [] → AreKeysOf s []
no_keys s e id kind reason = ap (list_any (is_at (key_cmp (id, (kind, reason))))) e

pub one_more : (old new : BTreeSet HoldKey) (h : Hold) (holds : List Hold) → Updates key_cmp old new (hold_key h) true
    → AreKeysOf old holds → AreKeysOf new (holds ++ h ∷ [])
one_more old new h holds updates are id kind reason =
    updates.0 (id, (kind, reason))
    ∙ ap (λ b. cond b true (contains key_cmp old (id, (kind, reason)))) (key_ties h id kind reason)
    ∙ ap (λ b. cond (has_key id kind reason h) true b) (are id kind reason)
    ∙ by (has_key id kind reason h) (list_any (has_key id kind reason) holds)
    ∙ sym (list_any-append (has_key id kind reason) holds (h ∷ []))
  where
    by : (a b : Bool) → cond a true b ≡ (b || (a || false))
    by true true = refl
    by true false = refl
    by false true = refl
    by false false = refl

pub next_key : (old new : BTreeSet HoldKey) (before holds : List Hold) (i : ℕ) (h : Hold) → i < length holds
    → h ≡ get_or holds i h → Updates key_cmp old new (hold_key h) true → AreKeysOf old (before ++ take i holds)
    → AreKeysOf new (before ++ take (i + 1) holds)
next_key old new before holds i h below at updates are =
    subst (λ l. AreKeysOf new (before ++ l))
    (sym (take_more holds i h below ∙ ap (λ u. take i holds ++ u ∷ []) (sym at)))
    (subst (AreKeysOf new) (append_assoc before (take i holds) (h ∷ []))
    (one_more old new h (before ++ take i holds) updates are))

-- the keys of the items up to the next one
pub next_item : (old new : BTreeSet HoldKey) (items : List Item) (i : ℕ) (x : Item) → i < length items
    → x ≡ get_or items i x
    → ((before : List Hold) → AreKeysOf old before → AreKeysOf new (before ++ holds_of x))
    → AreKeysOf old (flat_map holds_of (take i items)) → AreKeysOf new (flat_map holds_of (take (i + 1) items))
next_item old new items i x below at adds are =
    subst (λ l. AreKeysOf new (flat_map holds_of l))
    (sym (take_more items i x below ∙ ap (λ u. take i items ++ u ∷ []) (sym at)))
    (subst (AreKeysOf new) (sym (flat_map-append holds_of (take i items) (x ∷ [])
    ∙ ap (λ l. flat_map holds_of (take i items) ++ l) (append-nil (holds_of x))))
    (adds (flat_map holds_of (take i items)) are))

pub all_items : (keys : BTreeSet HoldKey) (items : List Item) (i : ℕ) → length items ≤ i
    → AreKeysOf keys (flat_map holds_of (take i items)) → AreKeysOf keys (flat_map holds_of items)
all_items keys items i whole are = subst (λ l. AreKeysOf keys (flat_map holds_of l)) (take_all i items whole) are
