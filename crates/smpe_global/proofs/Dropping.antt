-- Dropping the internal holds on a SYSMOD by their keys, one after the other.
use Rattle.std.proofs.Common.{◌≡◌, ◌∙◌, ◌&&◌, ◌||◌, ◌==◌, ◌<◌, inl, inr, ℕ, Bool, true, false, not, List, [], ◌∷◌}
use Rattle.std.proofs.Common.{length, get_or, map, filter, cond, refl, sym, ap, IsTrue, All, true≢false, arith}
use Rattle.std.specs.List.{list_any}
use Rattle.std.specs.Str.{bytes_eq}
use Rattle.std.specs.declared.cmp.Ordering.{Ordering}
use Rattle.std.specs.declared.cmp.Ordering.TheVariants.{Less, Equal, Greater}
use Rattle.std.specs.Ordering.{is_lt, is_eq, ordering_reverse}
use Rattle.std.proofs.lemmas.Bool.{cases_lt, and_parts}
use Rattle.std.proofs.lemmas.List.Elements.{All-head, All-tail, All-cons, All-map, All-from_get_or}
use Rattle.std.proofs.lemmas.List.Folds.{list_any_at, list_any_none}
use Rattle.terms.specs.declared.kinds.HoldKind.TheVariants.{System}
use Rattle.terms.specs.Types.{Id, Hold, Global, hold_number}
use Rattle.terms.specs.Rising.{Rises}
use Rattle.terms.specs.Lookups.{is_received, holds_of}
use Rattle.terms.specs.Global.{IsGlobal, has_key, hold_cmp, without_hold, without_sysmod}
use Rattle.terms.proofs.Searches.{filter_all}
use Rattle.terms.proofs.TextOrder.{same_itself}
use Rattle.terms.proofs.GlobalKept.{hold_cmp_total}
use Rattle.terms.proofs.HoldOrder.{has_key_ties}
use Rattle.sysmods.specs.declared.edit.GlobalEdit.TheVariants.{RemoveSysmod}
use Rattle.sysmods_values.specs.Edited.{less_sysmod}
use Rattle.sysmods.specs.Edits.{after_edits, IsOfReject}
use Rattle.smpe_global.specs.Rejections.{removal, edits_of}

module _ {X : Type 0} where
  -- two filters, one after the other
  filter_twice : (p q : X → Bool) (xs : List X) → filter (λ x. not (q x)) (filter (λ x. not (p x)) xs) ≡ filter
      (λ x. not (p x || q x)) xs
  filter_twice p q [] = refl
  filter_twice p q (x ∷ xs) = by (filter_twice p q xs) (p x) refl
    where
      by : filter (λ x. not (q x)) (filter (λ x. not (p x)) xs) ≡ filter (λ x. not (p x || q x)) xs
          → (b : Bool) → p x ≡ b → filter (λ x. not (q x)) (filter (λ x. not (p x)) (x ∷ xs)) ≡ filter
          (λ x. not (p x || q x)) (x ∷ xs)
      by again true e = rw e again
      by again false e = rw e (ap (λ ys. cond (not (q x)) (x ∷ ys) ys) again)

  -- two tests that agree at each item
  filter_alike : (p q : X → Bool) (xs : List X) → All (λ x. p x ≡ q x) xs → filter p xs ≡ filter q xs
  filter_alike p q [] all = refl
  filter_alike p q (x ∷ xs) all =
      ap (λ b. cond b (x ∷ filter p xs) (filter p xs)) (All-head (λ y. p y ≡ q y) x xs all)
      ∙ ap (λ ys. cond (q x) (x ∷ ys) ys) (filter_alike p q xs (All-tail (λ y. p y ≡ q y) x xs all))

  -- whether one that a filter keeps passes
  any_filter : (p q : X → Bool) (xs : List X) → list_any q (filter p xs) ≡ list_any (λ x. p x && q x) xs
  any_filter p q [] = refl
  any_filter p q (x ∷ xs) = by (any_filter p q xs) (p x) refl
    where
      by : list_any q (filter p xs) ≡ list_any (λ x. p x && q x) xs → (b : Bool) → p x ≡ b
          → list_any q (filter p (x ∷ xs)) ≡ list_any (λ x. p x && q x) (x ∷ xs)
      by again true e = rw e (ap (λ b. q x || b) again)
      by again false e = rw e again

-- what is lower does not tie, nor does what is higher
lower : (r : Ordering) → is_lt r ≡ true → is_eq r ≡ true → ⊥
lower Less l e = true≢false (sym e)
lower Equal l e = true≢false (sym l)
lower Greater l e = true≢false (sym l)

higher : (r : Ordering) → is_lt r ≡ true → is_eq (ordering_reverse r) ≡ true → ⊥
higher Less l e = true≢false (sym e)
higher Equal l e = true≢false (sym l)
higher Greater l e = true≢false (sym l)

-- whether the first hold has the second's key
abbrev pub has_key_of : Hold → Hold → Bool
has_key_of o h = has_key h.id h.kind h.reason o

-- the holds less those of these keys
removals_make : (stated g : Global) (hs : List Hold) → after_edits stated (map removal hs) g ≡ record g
    { holds = filter (λ o. not (list_any (has_key_of o) hs)) g.holds }
removals_make stated g [] = ap (λ os. record g { holds = os }) (sym
    (filter_all (λ (o : Hold). true) g.holds (λ i d below. refl)))
removals_make stated g (h ∷ hs) =
    removals_make stated (without_hold h.id h.kind h.reason g) hs
    ∙ ap (λ os. record g { holds = os }) (filter_twice (λ o. has_key_of o h) (λ o. list_any (has_key_of o) hs) g.holds)

-- holds of one key in a list that rises are one
one_hold : (hs : List Hold) (i j : ℕ) (d : Hold) → Rises hold_cmp (λ h. h) hs → i < length hs → j < length hs
    → has_key_of (get_or hs i d) (get_or hs j d) ≡ true → get_or hs j d ≡ get_or hs i d
one_hold hs i j d rises below_i below_j has =
    let o = get_or hs i d in
    let h = get_or hs j d in
    let tie : is_eq (hold_cmp h o) ≡ true = has_key_ties h.id h.kind h.reason o ∙ has in
    elim (cases_lt j i) [
      | inl less ↦ absurd (lower (hold_cmp h o) (rises j i d less below_i) tie)
      | inr le ↦ elim (cases_lt i j) [
        | inl less ↦ absurd (higher (hold_cmp o h) (rises i j d less below_j)
            (ap is_eq (sym (hold_cmp_total.antisymm h o)) ∙ tie))
        | inr ge ↦ let same : j ≡ i = omega (arith, le, ge) in ap (λ k. get_or hs k d) same
      ]
    ]

module _ (g : Global) (x : Id) (is : IsGlobal g) where
  -- an internal hold on it
  abbrev gone : Hold → Bool
  gone h = h.internal && bytes_eq h.id x

  abbrev on : Hold → Bool
  on h = bytes_eq h.id x && (hold_number h.kind == hold_number System)

  -- one of those that are dropped, which has the key
  abbrev dropped : Hold → Hold → Bool
  dropped o h = on h && (h.internal && has_key_of o h)

  itself : (o : Hold) → (IsTrue o.internal → (o.kind ≡ System) × IsTrue (is_received g o.id)) → gone o ≡ true
      → dropped o o ≡ true
  itself o own e =
      let parts = and_parts o.internal (bytes_eq o.id x) e in
      let kind = (own parts.0).0 in
      let number : (hold_number o.kind == hold_number System) ≡ true =
      ap (λ k. hold_number k == hold_number System) kind in
      let alike : (hold_number o.kind == hold_number o.kind) ≡ true = ap (λ k. hold_number k == hold_number k) kind in
      (λ i. (parts.1 i && number i) && (parts.0 i && ((same_itself o.id i && alike i) && same_itself o.reason i)))

  -- one that is dropped is internal and on it
  is_gone : (o h : Hold) → dropped o h ≡ true → (gone h ≡ true) × (has_key_of o h ≡ true)
  is_gone o h e =
      let two = and_parts (on h) (h.internal && has_key_of o h) e in
      let first = and_parts (bytes_eq h.id x) (hold_number h.kind == hold_number System) two.0 in
      let second = and_parts h.internal (has_key_of o h) two.1 in
      ((λ i. second.0 i && first.0 i), second.1)

  goes : (i : ℕ) (d : Hold) → i < length g.holds → list_any (dropped (get_or g.holds i d)) g.holds ≡ gone
      (get_or g.holds i d)
  goes i d below = by (gone (get_or g.holds i d)) refl
    where
      none : gone (get_or g.holds i d) ≡ false → (j : ℕ) → j < length g.holds → (b : Bool)
          → dropped (get_or g.holds i d) (get_or g.holds j d) ≡ b → b ≡ false
      none stays j under true e =
          let h = is_gone (get_or g.holds i d) (get_or g.holds j d) e in
          absurd (true≢false (sym h.0 ∙ ap gone (one_hold g.holds i j d is.holds below under h.1) ∙ stays))
      none stays j under false e = refl

      by : (b : Bool) → gone (get_or g.holds i d) ≡ b → list_any (dropped (get_or g.holds i d)) g.holds ≡ gone
          (get_or g.holds i d)
      by true e = list_any_at (dropped (get_or g.holds i d)) g.holds i d below
          (itself (get_or g.holds i d) (is.internal i d below) e) ∙ sym e
      by false e =
          list_any_none (dropped (get_or g.holds i d)) g.holds
          (All-from_get_or (λ h. dropped (get_or g.holds i d) h ≡ false) g.holds d
          (λ j under. none e j under (dropped (get_or g.holds i d) (get_or g.holds j d)) refl))
          ∙ sym e

  -- what a key says of a hold
  keyed : (o : Hold) → list_any (has_key_of o) (filter (λ h. h.internal) (holds_of g System x)) ≡ list_any (dropped o)
      g.holds
  keyed o = any_filter (λ h. h.internal) (has_key_of o) (holds_of g System x)
      ∙ any_filter on (λ h. h.internal && has_key_of o h) g.holds

  pub edits_make : (stated : Global) → after_edits stated (edits_of g x) g ≡ without_sysmod g x
  edits_make stated =
      let hs = filter (λ h. h.internal) (holds_of g System x) in
      removals_make stated (less_sysmod x g) hs
      ∙ ap (λ os. record (less_sysmod x g) { holds = os })
      (filter_alike (λ o. not (list_any (has_key_of o) hs)) (λ h. not (h.internal && bytes_eq h.id x)) g.holds
      (λ i d below. ap not (keyed (get_or g.holds i d) ∙ goes i d below)))

-- they are REJECT's
pub edits_reject : (g : Global) (x : Id) → All IsOfReject (edits_of g x)
edits_reject g x =
    let hs = filter (λ h. h.internal) (holds_of g System x) in
    All-cons IsOfReject (RemoveSysmod x) (map removal hs) tt (All-map IsOfReject removal hs (λ i d below. tt))
