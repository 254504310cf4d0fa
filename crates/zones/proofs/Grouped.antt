-- The elements that SYSMODs change, added one SYSMOD after the other, each stand there with all that change them.
use Rattle.std.proofs.Common.{◌≡◌, ℕ, ◌<◌, ◌+◌, Bool, true, false, List, [], ◌∷◌, ◌++◌, map, subst, Option}
use Rattle.std.proofs.Common.{Some, refl, sym, ap, ◌∙◌, IsTrue, All, cond, append-nil, length}
use Rattle.std.proofs.Common.{take}
use Rattle.std.specs.Prelude.{find, filter, is_some, get_or}
use Rattle.std.specs.Ordering.{is_lt, is_eq, ordering_reverse}
use Rattle.std.proofs.lemmas.List.{take-map, get_or-map, length-map}
use Rattle.std.proofs.lemmas.List.Elements.{filter-append}
use Rattle.terms.proofs.Lists.{front_more}
use Rattle.terms.proofs.Orderings.{Less_from_is_lt}
use Rattle.terms.proofs.Pairs.{AllPairs_first, AllPairs_rest}
use Rattle.terms.proofs.Searches.{find_over}
use Rattle.terms.specs.Types.{Id, Change, Global}
use Rattle.terms.specs.Lookups.{change_key, element_cmp, element_eq, changes_of, has_change}
use Rattle.terms.specs.Rising.{Rises}
use Rattle.terms.specs.Global.{IsGlobal}
use Rattle.terms.proofs.ChangedElements.{changes_rise}
use Rattle.terms.proofs.ElementOrder.{element_cmp_total, element_ties, same_key}
use Rattle.sorted.specs.MultiMap.{MultiMap, Adds, AddsToAll, once_each}
use Rattle.sorted.specs.ElementKeys.{Key, key_cmp}
use Rattle.sorted.proofs.ElementKeys.{key_ties}
use Rattle.sorted.proofs.Listing.{adds_to_next}
use Rattle.zones.specs.Grouping.{AddsBy, AreByElement}

-- a SYSMOD as one more, if it changes the element
abbrev one_if : Bool → Id → List Id
one_if b x = cond b (x ∷ []) []

-- by one statement more
pub by_next : (x : Id) (hs : List Change) (i : ℕ) (h : Change) (base old new : MultiMap Key Id) → i < length hs
    → h ≡ get_or hs i h → AddsBy x (take i hs) base old → Adds key_cmp (change_key h) x old new
    → AddsBy x (take (i + 1) hs) base new
by_next x hs i h base old new below is so_far adds =
    subst (λ ks. AddsToAll key_cmp ks x base new) (take-map change_key (i + 1) hs)
    (adds_to_next key_cmp (map change_key hs) i (change_key h) x base old new
    (subst (λ n. i < n) (sym (length-map hs change_key)) below)
    (ap change_key is ∙ sym (get_or-map change_key hs i h (change_key h) below))
    (subst (λ ks. AddsToAll key_cmp ks x base old) (sym (take-map change_key i hs)) so_far) adds)

-- of statements that rise one alone is for the element
none_behind : (h : Change) (hs : List Change) (k : Key) → All (λ o. IsTrue (is_lt (element_cmp (change_key h)
    (change_key o)))) hs → element_eq (change_key h) k ≡ true
    → All (λ o. element_eq (change_key o) k ≡ false) hs
none_behind h hs k rises at j d below =
    let o = get_or hs j d in
    let less = Less_from_is_lt (element_cmp (change_key h) (change_key o)) (rises j d below) in
    ap (element_eq (change_key o)) (sym (same_key (change_key h) k at))
    ∙ element_ties (change_key o) (change_key h)
    ∙ ap is_eq (element_cmp_total.antisymm (change_key o) (change_key h) ∙ ap ordering_reverse less)

-- a SYSMOD stands there once, if one of its statements, which rise, is for the element
once : (x : Id) (hs : List Change) (k : Key) → Rises element_cmp change_key hs
    → once_each key_cmp (map change_key hs) x k ≡ one_if (is_some (find (λ h. element_eq (change_key h) k) hs)) x
once x [] k rises = refl
once x (h ∷ hs) k rises =
    ap (λ b. one_if b x ++ once_each key_cmp (map change_key hs) x k) (key_ties (change_key h) k)
    ∙ ap (λ l. one_if (element_eq (change_key h) k) x ++ l)
    (once x hs k (AllPairs_rest (λ a b. IsTrue (is_lt (element_cmp (change_key a) (change_key b)))) h hs rises))
    ∙ by (element_eq (change_key h) k) refl
  where
    by : (b : Bool) → element_eq (change_key h) k ≡ b
        → one_if b x ++ one_if (is_some (find (λ o. element_eq (change_key o) k) hs)) x
        ≡ one_if (is_some (cond b (Some h) (find (λ o. element_eq (change_key o) k) hs))) x
    by true e =
        ap (λ (o : Option Change). x ∷ one_if (is_some o) x)
        (ap (find (λ o. element_eq (change_key o) k)) (sym (append-nil hs))
        ∙ find_over (λ o. element_eq (change_key o) k) hs [] (none_behind h hs k (AllPairs_first (λ a b. IsTrue
        (is_lt (element_cmp (change_key a) (change_key b)))) h hs rises) e))
    by false e = refl

-- one SYSMOD more
pub changers_next : (g : Global) (ids : List Id) (i : ℕ) (x : Id) (old new : MultiMap Key Id) → IsGlobal g → i < length ids
    → x ≡ get_or ids i x → AreByElement g (take i ids) old → AddsBy x (changes_of g x) old new
    → AreByElement g (take (i + 1) ids) new
changers_next g ids i x old new is below at so_far adds = record {
  list = λ k. adds.list k ∙ ap (λ l. l ++ once_each key_cmp (map change_key (changes_of g x)) x k) (so_far.list k)
      ∙ ap (λ l. filter (λ y. has_change g y k.0 k.1) (take i ids) ++ l)
      (once x (changes_of g x) k (changes_rise g x is))
      ∙ sym (filter-append (λ y. has_change g y k.0 k.1) (take i ids) (x ∷ []))
      ∙ ap (filter (λ y. has_change g y k.0 k.1)) (sym (front_more ids i x below at));
  some = adds.some so_far.some;
}
