-- Taking the internal holds on an id away, from key to key.
use Rattle.std.proofs.Common.{◌≡◌, ◌∙◌, Bool, true, false, not, ◌&&◌, ◌⊎◌, inl, inr, [], ◌∷◌, ◌++◌, refl, sym, ap}
use Rattle.std.proofs.Common.{subst, cond, Some, filter, true≢false}
use Rattle.std.specs.Prelude.{All}
use Rattle.std.specs.declared.cmp.Ordering.{Ordering}
use Rattle.std.specs.declared.cmp.Ordering.TheVariants.{Less, Equal, Greater}
use Rattle.std.specs.Ordering.{is_eq, is_le, nat_cmp, ordering_then, ordering_reverse}
use Rattle.std.specs.Cmp.Lexicographic.{slice_cmp}
use Rattle.std.specs.Str.{bytes_eq}
use Rattle.std.specs.List.{AllByRecursion}
use Rattle.std.specs.List.Sorted.{IsStrictlySortedBy}
use Rattle.std.specs.Map.{lookup, remove_entry, keys_of, values_of}
use Rattle.std.specs.BTreeMap.{is_at}
use Rattle.std.proofs.lemmas.Cmp.{tied_itself}
use Rattle.std.proofs.lemmas.Map.Text.{is_eq-slice_cmp}
use Rattle.std.proofs.lemmas.List.{append-nil}
use Rattle.std.proofs.lemmas.List.Elements.{All-head, All-tail}
use Rattle.std.proofs.lemmas.Map.Keys.{sorted_head, sorted_tail}
use Rattle.std.proofs.lemmas.Bool.{and_parts}
use Rattle.terms.proofs.TextOrder.{other_from_less, same_from, same_itself, same_back}
use Rattle.terms.specs.declared.kinds.HoldKind.{HoldKind}
use Rattle.terms.specs.declared.kinds.HoldKind.TheVariants.{Error, System, User}
use Rattle.terms.specs.Types.{Id, Hold, hold_number}
use Rattle.terms.proofs.Searches.{filter_all_recursion}
use Rattle.terms.proofs.Each.{recursion_weaker}
use Rattle.sysmods.specs.declared.key.HoldKey.{HoldKey}
use Rattle.sysmods.specs.Keys.{key_of, key_cmp, key_cmp_total, place_cmp, before_kind, behind_kind, IsByKey}
use Rattle.sysmods.specs.Lists.{is_internal_on}
use Rattle.sysmods.specs.Internal.{goes_on, IsFirstInternal}
use Rattle.sysmods.proofs.HoldMaps.{Entries, found_key}
use Rattle.std.proofs.lemmas.Bool.{and_parts}
use Rattle.terms.proofs.Orderings.{between_then}

-- what stays
abbrev pub stays : Id → Hold → Bool
stays x h = not (is_internal_on x h)

stays_other : (x : Id) (h : Hold) → bytes_eq h.id x ≡ false → stays x h ≡ true
stays_other x h other = by h.internal
  where
    by : (b : Bool) → not (b && bytes_eq h.id x) ≡ true
    by true = ap not other
    by false = refl

stays_external : (x : Id) (h : Hold) → h.internal ≡ false → stays x h ≡ true
stays_external x h external = ap (λ b. not (b && bytes_eq h.id x)) external

-- no hold of the id stands before its first place, and none behind its last
none_before : (x : Id) (h : Hold) → key_cmp (key_of h) (before_kind x Error) ≡ Less → bytes_eq h.id x ≡ false
none_before x h less = by (slice_cmp nat_cmp h.id x) h.kind refl less
  where
    by : (c : Ordering) (kind : HoldKind) → slice_cmp nat_cmp h.id x ≡ c
        → ordering_then c (ordering_then (nat_cmp (hold_number kind) 0) Greater) ≡ Less → bytes_eq h.id x ≡ false
    by Less kind e less = other_from_less h.id x e
    by Equal Error e less = cc
    by Equal System e less = cc
    by Equal User e less = cc
    by Greater kind e less = cc

none_behind : (x : Id) (h : Hold) → is_le (key_cmp (behind_kind x User) (key_of h)) ≡ true → bytes_eq h.id x ≡ false
none_behind x h le = by (slice_cmp nat_cmp x h.id) h.kind refl le
  where
    by : (c : Ordering) (kind : HoldKind) → slice_cmp nat_cmp x h.id ≡ c
        → is_le (ordering_then c (ordering_then (nat_cmp 2 (hold_number kind)) Greater)) ≡ true
        → bytes_eq h.id x ≡ false
    by Less kind e le = same_back h.id x ∙ other_from_less x h.id e
    by Equal Error e le = absurd (true≢false (sym le))
    by Equal System e le = absurd (true≢false (sym le))
    by Equal User e le = absurd (true≢false (sym le))
    by Greater kind e le = absurd (true≢false (sym le))

pub same_id : (from k : HoldKey) → goes_on from k ≡ true → from.id ≡ k.id
same_id from k on =
    same_from from.id k.id (sym (is_eq-slice_cmp from.id k.id)
    ∙ (and_parts (is_eq (slice_cmp nat_cmp from.id k.id)) (is_le low && not (is_le high))
    (sym (between_then (slice_cmp nat_cmp from.id k.id) low high) ∙ on)).0)
  where
    low : Ordering
    low = ordering_then (nat_cmp (hold_number from.kind) (hold_number k.kind)) (place_cmp from.place k.place)

    high : Ordering
    high = ordering_then (nat_cmp 2 (hold_number k.kind)) (place_cmp (behind_kind from.id User).place k.place)

-- a key is before another or not
less_or_not : (a b : HoldKey) → (key_cmp a b ≡ Less) ⊎ (is_le (key_cmp b a) ≡ true)
less_or_not a b = by (key_cmp a b) refl
  where
    by : (c : Ordering) → key_cmp a b ≡ c → (key_cmp a b ≡ Less) ⊎ (is_le (key_cmp b a) ≡ true)
    by Less e = inl e
    by Equal e = inr (ap is_le (key_cmp_total.antisymm b a ∙ ap ordering_reverse e))
    by Greater e = inr (ap is_le (key_cmp_total.antisymm b a ∙ ap ordering_reverse e))

not_le : (a b : HoldKey) → not (is_le (key_cmp a b)) ≡ true → key_cmp b a ≡ Less
not_le a b e = by (key_cmp a b) refl
  where
    by : (c : Ordering) → key_cmp a b ≡ c → key_cmp b a ≡ Less
    by Less f = absurd (true≢false (sym (sym (ap (λ c. not (is_le c)) f) ∙ e)))
    by Equal f = absurd (true≢false (sym (sym (ap (λ c. not (is_le c)) f) ∙ e)))
    by Greater f = key_cmp_total.antisymm b a ∙ ap ordering_reverse f

le_not : (a b : HoldKey) → key_cmp b a ≡ Less → not (is_le (key_cmp a b)) ≡ true
le_not a b less = ap (λ c. not (is_le c)) (key_cmp_total.antisymm a b ∙ ap ordering_reverse less)

-- what all that pass a test have
pub all_passing : (test : HoldKey → Bool) (P : HoldKey × Hold → Type 0) (es : Entries)
    → AllByRecursion P (filter (λ e. test e.0) es) → AllByRecursion (λ e. test e.0 ≡ true → P e) es
all_passing test P [] all = tt
all_passing test P (e ∷ es) all = by (all_passing test P es) (test e.0) refl
  where
    by : (AllByRecursion P (filter (λ e. test e.0) es) → AllByRecursion (λ e. test e.0 ≡ true → P e) es)
        → (b : Bool) → test e.0 ≡ b → AllByRecursion (λ e. test e.0 ≡ true → P e) (e ∷ es)
    by again true here = let all = rw here at all in (λ passes. all.0, again all.1)
    by again false other = let all = rw other at all in (λ passes. absurd (true≢false (sym passes ∙ other)), again all)

all_left : (P : HoldKey × Hold → Type 0) (test : HoldKey → Bool) (es : Entries) → AllByRecursion P es
    → AllByRecursion P (remove_entry test es)
all_left P test [] all = tt
all_left P test (e ∷ es) all = by (all_left P test es all.1) (test e.0) refl
  where
    by : AllByRecursion P (remove_entry test es) → (b : Bool) → test e.0 ≡ b
        → AllByRecursion P (remove_entry test (e ∷ es))
    by again true here = rw here all.1
    by again false other = rw other (all.0, again)

-- facts of a key and of its hold together
both : (P : HoldKey × Hold → Type 0) (Q : HoldKey × Hold → Type 0) (S : HoldKey × Hold → Type 0)
    → ((e : HoldKey × Hold) → P e → Q e → S e)
    → (es : Entries) → AllByRecursion P es → AllByRecursion Q es → AllByRecursion S es
both P Q S join [] p q = tt
both P Q S join (e ∷ es) p q = (join e p.0 q.0, both P Q S join es p.1 q.1)

-- ---- the search

-- those seen are not internal
abbrev pub External : Entries → Type 0
External es = AllByRecursion (λ e. e.1.internal ≡ false) es

abbrev Sorted : Entries → Type 0
Sorted gs = IsStrictlySortedBy key_cmp (keys_of gs)

-- an entry where the search stops: what stands before it in the list has been seen
between : (k : HoldKey) (h : Hold) (front back es : Entries) (test : HoldKey → Bool)
    → filter (λ e. test e.0) es ≡ front ++ (k, h) ∷ back → External front
    → IsStrictlySortedBy key_cmp (keys_of es) → AllByRecursion
    (λ e. test e.0 ≡ true → key_cmp e.0 k ≡ Less → e.1.internal ≡ false) es
unfolding IsStrictlySortedBy
between k h front back es test is seen sorted =
    all_passing test (λ e. key_cmp e.0 k ≡ Less → e.1.internal ≡ false) es
    (subst (AllByRecursion (λ e. key_cmp e.0 k ≡ Less → e.1.internal ≡ false)) (sym is)
    (by front seen (subst (λ gs. Sorted gs) is (kept test es sorted))))
  where
    above : (a : HoldKey) (gs : Entries) (test : HoldKey → Bool) → AllByRecursion (λ q. key_cmp a q ≡ Less) (keys_of gs)
        → AllByRecursion (λ q. key_cmp a q ≡ Less) (keys_of (filter (λ e. test e.0) gs))
    above a [] test all = tt
    above a (g ∷ gs) test all = pick (above a gs test all.1) (test g.0) refl
      where
        pick : AllByRecursion (λ q. key_cmp a q ≡ Less) (keys_of (filter (λ e. test e.0) gs)) → (b : Bool)
            → test g.0 ≡ b
            → AllByRecursion (λ q. key_cmp a q ≡ Less) (keys_of (filter (λ e. test e.0) (g ∷ gs)))
        pick again true here = rw here (all.0, again)
        pick again false other = rw other again

    kept : (test : HoldKey → Bool) (gs : Entries) → Sorted gs → Sorted (filter (λ e. test e.0) gs)
    kept test [] sorted = tt
    kept test (g ∷ gs) sorted = pick (kept test gs sorted.1) (test g.0) refl
      where
        pick : Sorted (filter (λ e. test e.0) gs) → (b : Bool) → test g.0 ≡ b → Sorted (filter (λ e. test e.0) (g ∷ gs))
        pick again true here = rw here (above g.0 gs test sorted.0, again)
        pick again false other = rw other again

    behind : (gs : Entries) → AllByRecursion (λ q. key_cmp k q ≡ Less) (keys_of gs)
        → AllByRecursion (λ e. key_cmp e.0 k ≡ Less → e.1.internal ≡ false) gs
    behind [] all = tt
    behind (g ∷ gs) all = (
      λ less. let turned : key_cmp g.0 k ≡ Greater =
          key_cmp_total.antisymm g.0 k ∙ ap ordering_reverse all.0 in cc,
      behind gs all.1,
    )

    by : (front : Entries) → External front → Sorted (front ++ (k, h) ∷ back)
        → AllByRecursion (λ e. key_cmp e.0 k ≡ Less → e.1.internal ≡ false) (front ++ (k, h) ∷ back)
    by [] seen sorted = (
      λ less. let tie : key_cmp k k ≡ Equal = tied_itself key_cmp_total k
          in cc,
      behind back (sorted_head key_cmp k (keys_of back) sorted),
    )
    by (e ∷ front) seen sorted = (
      λ less. seen.0,
      by front seen.1
          (sorted_tail key_cmp e.0 (keys_of (front ++ (k, h) ∷ back)) sorted),
    )

passing : (test : HoldKey → Bool) (es : Entries) → AllByRecursion (λ e. test e.0 ≡ true) (filter (λ e. test e.0) es)
passing test [] = tt
passing test (e ∷ es) = by (passing test es) (test e.0) refl
  where
    by : AllByRecursion (λ e. test e.0 ≡ true) (filter (λ e. test e.0) es) → (b : Bool) → test e.0 ≡ b
        → AllByRecursion (λ e. test e.0 ≡ true) (filter (λ e. test e.0) (e ∷ es))
    by again true here = rw here (here, again)
    by again false other = rw other again

in_middle : (P : HoldKey × Hold → Type 0) (front back : Entries) (e : HoldKey × Hold)
    → AllByRecursion P (front ++ e ∷ back) → P e
in_middle P [] back e all = all.0
in_middle P (f ∷ front) back e all = in_middle P front back e all.1

pub at_middle : (P : HoldKey × Hold → Type 0) (front back : Entries) (e : HoldKey × Hold) → All P (front ++ e ∷ back)
    → P e
at_middle P [] back e all = All-head P e back all
at_middle P (f ∷ front) back e all = at_middle P front back e (All-tail P f (front ++ e ∷ back) all)

-- where the search stops at an internal hold
pub first_at : (es : Entries) → IsByKey es → (from k : HoldKey) (h : Hold) (front back : Entries)
    → filter (λ e. goes_on from e.0) es ≡ front ++ (k, h) ∷ back → External front
    → lookup (is_at (key_cmp k)) es ≡ Some h → h.internal ≡ true → IsFirstInternal es from k
first_at es m from k h front back is seen stands internal = record {
  on = in_middle (λ e. goes_on from e.0 ≡ true) front back (k, h)
      (subst (AllByRecursion (λ e. goes_on from e.0 ≡ true)) is (passing (goes_on from) es));
  hold = h;
  stands = stands;
  internal = internal;
  between = between k h front back es (goes_on from) is seen m.sorted;
}

-- where it finds none
pub none_at : (es : Entries) (from : HoldKey) (front : Entries) → filter (λ e. goes_on from e.0) es ≡ front ++ []
    → External front
    → AllByRecursion (λ e. goes_on from e.0 ≡ true → e.1.internal ≡ false) es
none_at es from front is seen =
    all_passing (goes_on from) (λ e. e.1.internal ≡ false) es (subst External (sym (is ∙ append-nil front)) seen)

-- ---- the removal

-- before the key nothing goes
abbrev pub DoneBelow : Id → HoldKey → Entries → Type 0
DoneBelow x k es = AllByRecursion (λ e. key_cmp e.0 k ≡ Less → stays x e.1 ≡ true) es

pub done_first : (x : Id) (es : Entries) → IsByKey es → DoneBelow x (before_kind x Error) es
done_first x es m =
    recursion_weaker (λ e. key_of e.1 ≡ e.0) (λ e. key_cmp e.0 (before_kind x Error) ≡ Less → stays x e.1 ≡ true)
    (λ e same less. stays_other x e.1 (none_before x e.1 (ap (λ k. key_cmp k (before_kind x Error)) same ∙ less))) es
    m.known

-- an entry goes whose hold does not stay
dropped : (x : Id) (k : HoldKey) (h : Hold) (es : Entries) → lookup (is_at (key_cmp k)) es ≡ Some h → stays x h ≡ false
    → filter (stays x) (values_of (remove_entry (is_at (key_cmp k)) es)) ≡ filter (stays x) (values_of es)
dropped x k h [] some goes = refl
dropped x k h (e ∷ es) some goes = by (dropped x k h es) (is_at (key_cmp k) e.0) refl
  where
    by : (lookup (is_at (key_cmp k)) es ≡ Some h → stays x h ≡ false
        → filter (stays x) (values_of (remove_entry (is_at (key_cmp k)) es)) ≡ filter (stays x) (values_of es))
        → (b : Bool) → is_at (key_cmp k) e.0 ≡ b → filter (stays x)
        (values_of (remove_entry (is_at (key_cmp k)) (e ∷ es))) ≡ filter (stays x) (values_of (e ∷ es))
    by again true here =
        let found = rw here at some in
        let same : e.1 ≡ h = cc in
        let gone : stays x e.1 ≡ false = ap (stays x) same ∙ goes in
        rw (here, gone) refl
    by again false other =
        let found = rw other at some in
        rw other (ap (cond (stays x e.1) (e.1 ∷ filter (stays x) (values_of (remove_entry (is_at (key_cmp k)) es))))
        (again found goes)
        ∙ ap (λ ys. cond (stays x e.1) (e.1 ∷ ys) (filter (stays x) (values_of es))) (again found goes))

-- what is known of an entry when the search finds no more
abbrev Rest : HoldKey → HoldKey × Hold → Type 0
Rest from e = (key_of e.1 ≡ e.0) × (goes_on from e.0 ≡ true → e.1.internal ≡ false)

module _ (x : Id) (from : HoldKey) (of : from.id ≡ x) (es : Entries) (m : IsByKey es) (done : DoneBelow x from es) where
  pub dropped_next : (k : HoldKey) → IsFirstInternal es from k
      → filter (stays x) (values_of (remove_entry (is_at (key_cmp k)) es)) ≡ filter (stays x) (values_of es)
  dropped_next k first =
      let id : first.hold.id ≡ x = ap (λ q. q.id) (found_key es m.known k first.hold first.stands)
      ∙ sym (same_id from k first.on) ∙ of in
      let goes : stays x first.hold ≡ false = ap (λ b. not (b && bytes_eq first.hold.id x)) first.internal
      ∙ ap (λ y. not (bytes_eq y x)) id ∙ ap not (same_itself x) in
      dropped x k first.hold es first.stands goes

  pub done_next : (k : HoldKey) → IsFirstInternal es from k → DoneBelow x k (remove_entry (is_at (key_cmp k)) es)
  done_next k first =
      all_left (λ e. key_cmp e.0 k ≡ Less → stays x e.1 ≡ true) (is_at (key_cmp k)) es
      (both (λ e. key_cmp e.0 from ≡ Less → stays x e.1 ≡ true)
      (λ e. goes_on from e.0 ≡ true → key_cmp e.0 k ≡ Less → e.1.internal ≡ false)
      (λ e. key_cmp e.0 k ≡ Less → stays x e.1 ≡ true)
      step es done first.between)
    where
      end : key_cmp k (behind_kind from.id User) ≡ Less
      end = not_le (behind_kind from.id User) k (and_parts (is_le (key_cmp from k))
          (not (is_le (key_cmp (behind_kind from.id User) k))) first.on).1

      step : (e : HoldKey × Hold) → (key_cmp e.0 from ≡ Less → stays x e.1 ≡ true)
          → (goes_on from e.0 ≡ true → key_cmp e.0 k ≡ Less → e.1.internal ≡ false) → key_cmp e.0 k ≡ Less
          → stays x e.1 ≡ true
      step e below on less =
          elim (less_or_not e.0 from) [
            | inl before ↦ below before
            | inr le ↦
                let short : not (is_le (key_cmp (behind_kind from.id User) e.0)) ≡ true =
                le_not (behind_kind from.id User) e.0
                (key_cmp_total.trans e.0 k (behind_kind from.id User) less end) in
                stays_external x e.1 (on (ap (λ b. b && not (is_le (key_cmp (behind_kind from.id User) e.0))) le
                ∙ short) less)
          ]

  -- where there is none more, all is done
  pub done_all : AllByRecursion (λ e. goes_on from e.0 ≡ true → e.1.internal ≡ false) es
      → values_of es ≡ filter (stays x) (values_of es)
  done_all none = sym (filter_all_recursion (stays x) (values_of es)
      (values es (both (λ e. key_cmp e.0 from ≡ Less → stays x e.1 ≡ true) (Rest from) (λ e. stays x e.1 ≡ true) step es
      done rest)))
    where
      rest : AllByRecursion (Rest from) es
      rest = both (λ e. key_of e.1 ≡ e.0) (λ e. goes_on from e.0 ≡ true → e.1.internal ≡ false) (Rest from)
          (λ e a b. (a, b)) es m.known none

      values : (gs : Entries) → AllByRecursion (λ e. stays x e.1 ≡ true) gs
          → AllByRecursion (λ h. stays x h ≡ true) (values_of gs)
      values [] all = tt
      values (g ∷ gs) all = (all.0, values gs all.1)

      step : (e : HoldKey × Hold) → (key_cmp e.0 from ≡ Less → stays x e.1 ≡ true) → Rest from e → stays x e.1 ≡ true
      step e below rest =
          elim (less_or_not e.0 from) [
            | inl before ↦ below before
            | inr le ↦ past (is_le (key_cmp (behind_kind from.id User) e.0)) refl le
          ]
        where
          past : (b : Bool) → is_le (key_cmp (behind_kind from.id User) e.0) ≡ b → is_le (key_cmp from e.0) ≡ true
              → stays x e.1 ≡ true
          past true end le = stays_other x e.1 (none_behind x e.1
              (ap (λ y. is_le (key_cmp (behind_kind y User) (key_of e.1))) (sym of)
              ∙ ap (λ q. is_le (key_cmp (behind_kind from.id User) q)) rest.0 ∙ end))
          past false end le = stays_external x e.1 (rest.1 (ap
              (λ b. b && not (is_le (key_cmp (behind_kind from.id User) e.0))) le ∙ ap not end))
