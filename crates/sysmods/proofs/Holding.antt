-- What stays true of the map and its index as they change.
use Rattle.std.proofs.Common.{◌≡◌, Bool, true, not, List, [], ◌∷◌, get_or, sym, ap, ◌∙◌, subst, Some, All, IsTrue}
use Rattle.std.proofs.Common.{arith}
use Rattle.std.specs.declared.cmp.Ordering.{Ordering}
use Rattle.std.specs.declared.cmp.Ordering.TheVariants.{Less}
use Rattle.std.specs.Ordering.{is_lt, nat_cmp}
use Rattle.std.specs.Cmp.Lexicographic.{slice_cmp}
use Rattle.std.specs.List.{AllByRecursion}
use Rattle.std.specs.List.Sorted.{IsStrictlySortedBy}
use Rattle.std.specs.Map.{lookup, set_value, remove_entry, keys_of, values_of}
use Rattle.std.specs.BTreeMap.{BTreeMap, IsOrdered, insert_entry, is_at}
use Rattle.std.specs.Str.{bytes_eq}
use Rattle.std.proofs.lemmas.Cmp.{nat_list_cmp_total}
use Rattle.std.proofs.lemmas.List.Elements.{All-nil, All-cons, All-filter, All-map, All-weaker, filter_passes}
use Rattle.std.proofs.lemmas.List.Kept.{AllPairs-cons}
use Rattle.std.proofs.lemmas.Map.Keys.{sorted_head, sorted_tail}
use Rattle.std.proofs.lemmas.Map.Views.{All-found, All-values-insert_entry, All-values-set_value}
use Rattle.std.proofs.lemmas.Bool.{not-true}
use Rattle.terms.specs.Types.{Text, Id, Sysmod}
use Rattle.terms.specs.Rising.{Rises}
use Rattle.terms.specs.Global.{IsSysmod, with_source}
use Rattle.terms.proofs.TextOrder.{same_from, same_back}
use Rattle.terms.proofs.Searches.{find_passes, All_find}
use Rattle.sysmods.specs.Index.{Sets, IsIndexed, Grows, KeepsOthers}
use Rattle.sysmods.specs.Held.{IsHeld, IsKeyed, found}
use Rattle.sysmods.proofs.Entries.{find_lookup, keyed_insert, keyed_remove, keyed_assign, values_remove}
use Rattle.sysmods.proofs.Entries.{others}

abbrev C : Id → Id → Ordering
C = slice_cmp nat_cmp

abbrev Entries : Type 0
Entries = List (Id × Sysmod)

-- the SYSMODs rise by id
above : (x : Id) (es : Entries) → IsKeyed es → AllByRecursion (λ q. C x q ≡ Less) (keys_of es)
    → All (λ s. IsTrue (is_lt (C x s.id))) (values_of es)
above x [] k all = All-nil (λ s. IsTrue (is_lt (C x s.id)))
above x (e ∷ es) k all =
    All-cons (λ s. IsTrue (is_lt (C x s.id))) e.1 (values_of es) (ap (λ y. is_lt (C x y)) k.0 ∙ ap is_lt all.0)
    (above x es k.1 all.1)

pub rises_values : (es : Entries) → IsKeyed es → IsStrictlySortedBy C (keys_of es) → Rises C (λ s. s.id) (values_of es)
rises_values [] k sorted = λ i j d before below. absurd (omega (arith, below))
rises_values (e ∷ es) k sorted =
    AllPairs-cons (λ a b. IsTrue (is_lt (C a.id b.id))) e.1 (values_of es)
    (subst (λ y. All (λ s. IsTrue (is_lt (C y s.id))) (values_of es)) (sym k.0)
    (above e.0 es k.1 (sorted_head C e.0 (keys_of es) sorted)))
    (rises_values es k.1 (sorted_tail C e.0 (keys_of es) sorted))

-- each SYSMOD is found by its id
all_keyed : (es : Entries) → IsKeyed es → All (λ e. e.1.id ≡ e.0) es
all_keyed [] k = All-nil (λ (e : Id × Sysmod). e.1.id ≡ e.0)
all_keyed (e ∷ es) k = All-cons (λ (e : Id × Sysmod). e.1.id ≡ e.0) e es k.0 (all_keyed es k.1)

pub found_itself : (m : BTreeMap Id Sysmod) → IsKeyed m.entries → IsOrdered C m
    → All (λ s. found (values_of m.entries) s.id ≡ Some s) (values_of m.entries)
found_itself m k sorted =
    All-map (λ s. found (values_of m.entries) s.id ≡ Some s) (λ (e : Id × Sysmod). e.1) m.entries
    (λ i d below.
    let here = all_keyed m.entries k i d below in
    let there = All-found nat_list_cmp_total m sorted i d below in
    find_lookup m.entries (get_or m.entries i d).1.id k ∙ ap (λ y. lookup (is_at (C y)) m.entries) here ∙ there)

pub held_grows : (es : Entries) (old new : Sets) → IsHeld es old → Grows old new → IsHeld es new
held_grows es old new h grows = record {
  sorted = h.sorted;
  keyed = h.keyed;
  formed = h.formed;
  indexed = All-weaker (IsIndexed old) (IsIndexed new) (λ s has z named. grows z s.id (has z named)) (values_of es)
      h.indexed;
}

pub held_insert : (es : Entries) (old new : Sets) (s : Sysmod) → IsHeld es old → Grows old new
    → IsStrictlySortedBy C (keys_of (insert_entry C es s.id s))
    → IsIndexed new s → IsSysmod s → IsHeld (insert_entry C es s.id s) new
held_insert es old new s h grows sorted has formed = record {
  sorted = sorted;
  keyed = keyed_insert es s h.keyed;
  formed = All-values-insert_entry C s.id s IsSysmod es h.formed formed;
  indexed = All-values-insert_entry C s.id s (IsIndexed new) es (held_grows es old new h grows).indexed has;
}

pub held_remove : (es : Entries) (old new : Sets) (x : Id) (s : Sysmod) → lookup (is_at (C x)) es ≡ Some s
    → IsHeld es old → KeepsOthers s.id old new
    → IsStrictlySortedBy C (keys_of (remove_entry (is_at (C x)) es)) → IsHeld (remove_entry (is_at (C x)) es) new
held_remove es old new x s there h keeps sorted = record {
  sorted = sorted;
  keyed = keyed_remove es x h.keyed;
  formed = subst (All IsSysmod) (sym values) (All-filter other IsSysmod (values_of es) h.formed);
  indexed = subst (All (IsIndexed new)) (sym values)
      (λ i d below. stays (get_or (others x (values_of es)) i d) (filter_passes other (values_of es) i d below)
      (All-filter other (IsIndexed old) (values_of es) h.indexed i d below));
}
  where
    other : Sysmod → Bool
    other r = not (bytes_eq r.id x)

    values : values_of (remove_entry (is_at (C x)) es) ≡ others x (values_of es)
    values = values_remove es x h.keyed h.sorted

    same : s.id ≡ x
    same = same_from s.id x (find_passes (λ r. bytes_eq r.id x) (values_of es) s (find_lookup es x h.keyed ∙ there))

    stays : (r : Sysmod) → not (bytes_eq r.id x) ≡ true → IsIndexed old r → IsIndexed new r
    stays r passes has z named = keeps z r.id (ap (λ y. bytes_eq y r.id) same ∙ same_back x r.id
        ∙ not-true (bytes_eq r.id x) passes) (has z named)

pub held_assign : (es : Entries) (sets : Sets) (source : Text) (x : Id) (s : Sysmod) → lookup (is_at (C x)) es ≡ Some s
    → IsHeld es sets → IsSysmod (with_source source s)
    → IsStrictlySortedBy C (keys_of (set_value (is_at (C x)) es (with_source source s)))
    → IsHeld (set_value (is_at (C x)) es (with_source source s)) sets
held_assign es sets source x s there h formed sorted = record {
  sorted = sorted;
  keyed = keyed_assign es source x s h.keyed there;
  formed = All-values-set_value (is_at (C x)) IsSysmod es (with_source source s) h.formed formed;
  indexed = All-values-set_value (is_at (C x)) (IsIndexed sets) es (with_source source s) h.indexed
      (All_find (IsIndexed sets) (λ r. bytes_eq r.id x) (values_of es) s h.indexed (find_lookup es x h.keyed ∙ there));
}
