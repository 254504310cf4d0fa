-- The map of SYSMODs, as the list of its values.
use Rattle.std.proofs.Common.{◌≡◌, Bool, true, false, not, List, [], ◌∷◌, map, filter, cond, refl, sym, ap, ◌∙◌, None}
use Rattle.std.proofs.Common.{Some, if◌then◌else◌}
use Rattle.std.specs.declared.cmp.Ordering.{Ordering}
use Rattle.std.specs.Ordering.{is_eq, nat_cmp}
use Rattle.std.specs.Cmp.Lexicographic.{slice_cmp}
use Rattle.std.specs.List.{AllByRecursion}
use Rattle.std.specs.List.Sorted.{IsStrictlySortedBy}
use Rattle.std.specs.Map.{lookup, set_value, remove_entry, keys_of, values_of}
use Rattle.std.specs.BTreeMap.{insert_entry, is_at}
use Rattle.std.specs.Str.{bytes_eq}
use Rattle.std.proofs.lemmas.Cmp.{nat_list_cmp_total}
use Rattle.std.proofs.lemmas.Map.Text.{is_eq-slice_cmp}
use Rattle.std.proofs.lemmas.Map.Lookups.{exact_bytes}
use Rattle.std.proofs.lemmas.List.{map-append}
use Rattle.std.proofs.lemmas.List.Concat.{flat_map_single}
use Rattle.std.proofs.lemmas.List.Elements.{filter-append}
use Rattle.terms.specs.Types.{Text, Id, Sysmod}
use Rattle.terms.specs.Rising.{with_item}
use Rattle.terms.specs.Global.{with_source}
use Rattle.terms.proofs.GlobalLookups.{assigned}
use Rattle.terms.proofs.TextOrder.{same_from, same_back, same_itself}
use Rattle.terms.proofs.Searches.{find_passes, filter_all_recursion, filter_none_recursion}
use Rattle.terms.proofs.GlobalGroups as groups
use Rattle.terms.proofs.Each.{recursion_weaker}
use Rattle.sysmods.specs.Held.{IsKeyed, found}

abbrev C : Id → Id → Ordering
C = slice_cmp nat_cmp

abbrev Entries : Type 0
Entries = List (Id × Sysmod)

abbrev one : Sysmod → List Sysmod
one s = s ∷ []

-- the groups that the entries are: one SYSMOD each
keyed_groups : (es : Entries) → IsKeyed es → groups.HasKeys nat_list_cmp_total (λ s. s.id) one es
keyed_groups [] k = tt
keyed_groups (e ∷ es) k = ((k.0, tt), keyed_groups es k.1)

groups_keyed : (es : Entries) → groups.HasKeys nat_list_cmp_total (λ s. s.id) one es → IsKeyed es
groups_keyed [] k = tt
groups_keyed (e ∷ es) k = (k.0.0, groups_keyed es k.1)

flat_values : (es : Entries) → groups.flat nat_list_cmp_total (λ s. s.id) one es ≡ values_of es
flat_values es = flat_map_single (λ (e : Id × Sysmod). e.1) es

-- a search of the values by id is a look-up
pub find_lookup : (es : Entries) (x : Id) → IsKeyed es → found (values_of es) x ≡ lookup (is_at (C x)) es
find_lookup [] x k = refl
find_lookup (e ∷ es) x k =
    let same : bytes_eq e.1.id x ≡ is_eq (C x e.0) = ap (λ y. bytes_eq y x) k.0 ∙ same_back e.0 x
    ∙ sym (is_eq-slice_cmp x e.0) in
    ap (λ b. cond b (Some e.1) (found (values_of es) x)) same
    ∙ ap (cond (is_eq (C x e.0)) (Some e.1)) (find_lookup es x k.1)

-- a new SYSMOD takes its place
pub values_insert : (es : Entries) (s : Sysmod) → IsKeyed es → IsStrictlySortedBy C (keys_of es)
    → lookup (is_at (C s.id)) es ≡ None
    → values_of (insert_entry C es s.id s) ≡ with_item C (λ r. r.id) (values_of es) s
values_insert es s k sorted none =
    sym (flat_values (insert_entry C es s.id s))
    ∙ groups.flat_insert_entry nat_list_cmp_total (λ r. r.id) one (λ a b. C a.id b.id) (λ a b h. h) (λ a b h. h) es s s
    (keyed_groups es k) sorted
    (rw none refl)
    ∙ ap (λ xs. with_item C (λ r. r.id) xs s) (flat_values es)

pub keyed_insert : (es : Entries) (s : Sysmod) → IsKeyed es → IsKeyed (insert_entry C es s.id s)
keyed_insert es s k =
    groups_keyed (insert_entry C es s.id s)
    (groups.HasKeys_insert_entry nat_list_cmp_total (λ r. r.id) one exact_bytes es s.id s (keyed_groups es k)
    (refl, tt))

-- the SYSMODs of other ids
abbrev pub others : Id → List Sysmod → List Sysmod
others x xs = filter (λ s. not (bytes_eq s.id x)) xs

pub values_remove : (es : Entries) (x : Id) → IsKeyed es → IsStrictlySortedBy C (keys_of es)
    → values_of (remove_entry (is_at (C x)) es) ≡ others x (values_of es)
values_remove es x k sorted =
    sym (flat_values (remove_entry (is_at (C x)) es))
    ∙ groups.flat_remove_entry nat_list_cmp_total (λ r. r.id) one (others x) x refl (filter-append p) rest es
    (keyed_groups es k) sorted
    (filter_none_recursion p (groups.items_at nat_list_cmp_total (λ r. r.id) one es x)
    (recursion_weaker (λ s. s.id ≡ x) (λ s. p s ≡ false) gone (groups.items_at nat_list_cmp_total (λ r. r.id) one es x)
    (groups.items_at_keys nat_list_cmp_total (λ r. r.id) one exact_bytes es x (keyed_groups es k))))
    ∙ ap (others x) (flat_values es)
  where
    p : Sysmod → Bool
    p s = not (bytes_eq s.id x)

    gone : (s : Sysmod) → s.id ≡ x → not (bytes_eq s.id x) ≡ false
    gone s same = ap (λ y. not (bytes_eq y x)) same ∙ ap not (same_itself x)

    stays : (s : Sysmod) → is_eq (C x s.id) ≡ false → not (bytes_eq s.id x) ≡ true
    stays s other = ap not (same_back s.id x ∙ sym (is_eq-slice_cmp x s.id) ∙ other)

    rest : (xs : List Sysmod) → AllByRecursion (λ s. is_eq (C x s.id) ≡ false) xs → others x xs ≡ xs
    rest xs all = filter_all_recursion p xs (recursion_weaker (λ s. is_eq (C x s.id) ≡ false) (λ s. p s ≡ true) stays xs
        all)

pub keyed_remove : (es : Entries) (x : Id) → IsKeyed es → IsKeyed (remove_entry (is_at (C x)) es)
keyed_remove es x k =
    groups_keyed (remove_entry (is_at (C x)) es)
    (groups.HasKeys_remove_entry nat_list_cmp_total (λ r. r.id) one (is_at (C x)) es (keyed_groups es k))

-- the SYSMOD of an id changes, and keeps its id
abbrev pub all_assigned : Text → Id → List Sysmod → List Sysmod
all_assigned source x xs = map (assigned source x) xs

unnamed_same : (source : Text) (x : Id) (s : Sysmod) → is_eq (C x s.id) ≡ false → assigned source x s ≡ s
unnamed_same source x s other =
    ap (λ b. if b then with_source source s else s) (same_back s.id x ∙ sym (is_eq-slice_cmp x s.id) ∙ other)

all_unnamed : (source : Text) (x : Id) (xs : List Sysmod) → AllByRecursion (λ s. is_eq (C x s.id) ≡ false) xs
    → all_assigned source x xs ≡ xs
all_unnamed source x [] all = refl
all_unnamed source x (s ∷ xs) all = rw (unnamed_same source x s all.0, all_unnamed source x xs all.1) refl

pub values_assign : (es : Entries) (source : Text) (x : Id) (s : Sysmod) → IsKeyed es
    → IsStrictlySortedBy C (keys_of es) → lookup (is_at (C x)) es ≡ Some s
    → values_of (set_value (is_at (C x)) es (with_source source s)) ≡ all_assigned source x (values_of es)
values_assign es source x s k sorted there =
    sym (flat_values (set_value (is_at (C x)) es (with_source source s)))
    ∙ groups.flat_set_value nat_list_cmp_total (λ r. r.id) one (all_assigned source x) x refl
    (map-append (assigned source x)) (all_unnamed source x) es (with_source source s) (keyed_groups es k) sorted
    (rw there (ap one (sym (ap (λ b. if b then with_source source s else s) here))))
    ∙ ap (all_assigned source x) (flat_values es)
  where
    here : bytes_eq s.id x ≡ true
    here = find_passes (λ r. bytes_eq r.id x) (values_of es) s (find_lookup es x k ∙ there)

pub keyed_assign : (es : Entries) (source : Text) (x : Id) (s : Sysmod) → IsKeyed es → lookup (is_at (C x)) es ≡ Some s
    → IsKeyed (set_value (is_at (C x)) es (with_source source s))
keyed_assign es source x s k there =
    groups_keyed (set_value (is_at (C x)) es (with_source source s))
    (groups.HasKeys_set_value nat_list_cmp_total (λ r. r.id) one exact_bytes es x (with_source source s)
    (keyed_groups es k)
    (same_from s.id x (find_passes (λ r. bytes_eq r.id x) (values_of es) s (find_lookup es x k ∙ there)), tt))

-- where there is none of the id, nothing changes
pub values_none : (es : Entries) (source : Text) (x : Id) → IsKeyed es → lookup (is_at (C x)) es ≡ None
    → all_assigned source x (values_of es) ≡ values_of es
values_none [] source x k none = refl
values_none (e ∷ es) source x k none = by (values_none es source x k.1) (is_eq (C x e.0)) refl
  where
    by : (lookup (is_at (C x)) es ≡ None → all_assigned source x (values_of es) ≡ values_of es)
        → (b : Bool) → is_eq (C x e.0) ≡ b → all_assigned source x (values_of (e ∷ es)) ≡ values_of (e ∷ es)
    by again true here = let now = rw here at none in absurd (none_some now)
      where
        none_some : Some e.1 ≡ None → ⊥
        none_some e = cc
    by again false other =
        let rest = rw other at none in
        rw (unnamed_same source x e.1 (ap (λ y. is_eq (C x y)) k.0 ∙ other), again rest) refl
