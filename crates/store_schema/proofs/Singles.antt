-- Where no SYSMOD has two ++VERs of one SREL, and each entry was installed by the first.
use Rattle.std.proofs.Common.{◌≡◌, inl, inr, ℕ, ◌+◌, not, List, [], ◌∷◌, ◌++◌, map, filter, All}
use Rattle.std.proofs.Common.{IsTrue, Option, None, Some, refl, sym, ap, ap₂, subst, ◌∙◌}
use Rattle.std.specs.Prelude.{IfSome}
use Rattle.std.specs.List.{AllByRecursion, flat_map, enumerate_from}
use Rattle.terms.proofs.TextOrder.{other_text}
use Rattle.sqlite.specs.Tree.{IsAscending}
use Rattle.sqlite_rules.specs.Lists.{Has}
use Rattle.sqlite_rules.proofs.ListLemmas.{all_has, has_either}
use Rattle.terms.specs.Types.{Text, Ver, Sysmod, Applied, Entry, NamedZone}
use Rattle.terms.specs.Lookups.{is_before, IsRising}
use Rattle.terms.proofs.IdPlaces.{before_apart}
use Rattle.store_schema.specs.Inventory.{Inventory}
use Rattle.store_schema.specs.Rows.{numbered_behind, is_first, first_vers, further_vers, vers_of, ver_row, morevers_of}
use Rattle.store_schema.specs.Rows.{ifreq_row, ifreqs_of, moreifs_of, chosen_in, chosen_of}
use Rattle.store_schema.specs.Earlier.{IsOfEarlier}
use Rattle.store_schema.proofs.WrittenLists.{ascending, ascending_by, all_by}
use Rattle.store_schema.proofs.Numbered.{count_of}

pub flat_none : {X Y : Type 0} (f : X → List Y) (xs : List X) → AllByRecursion (λ x. f x ≡ []) xs → flat_map f xs ≡ []
flat_none f [] all = refl
flat_none f (x ∷ xs) all = ap₂ ◌++◌ all.0 (flat_none f xs all.1)

-- ---- ++VERs

abbrev pub IsSrelBefore : Ver → Ver → Type 0
IsSrelBefore v w = IsTrue (is_before v.srel w.srel)

abbrev AreAllBefore : List Ver → List Ver → Type 0
AreAllBefore front vs = (u w : Ver) → Has front u → Has vs w → IsSrelBefore u w

none_before : (front : List Ver) (v : Ver) → ((u : Ver) → Has front u → IsSrelBefore u v) → count_of v.srel front ≡ 0
none_before [] v before = refl
none_before (u ∷ front) v before =
    rw (other_text u.srel v.srel (before_apart u.srel v.srel (before u (inl refl))))
    (none_before front v (λ w h. before w (inr h)))

before_more : (front : List Ver) (v : Ver) (vs : List Ver) → AreAllBefore front (v ∷ vs)
    → IsAscending IsSrelBefore (v ∷ vs) → AreAllBefore (front ++ v ∷ []) vs
before_more front v vs before rise u w hu hw = elim (has_either front (v ∷ []) u hu) [
  | inl there ↦ before u w there (inr hw)
  | inr last ↦ elim last [
    | inl same ↦ subst (λ x. IsSrelBefore x w) (sym same) (all_has (IsSrelBefore v) vs w rise.0 hw)
    | inr none ↦ absurd none
  ]
]

-- each is the first of its SREL
abbrev pub alone : Ver → ℕ × Ver
alone v = (1, v)

all_alone : (front vs : List Ver) → AreAllBefore front vs → IsAscending IsSrelBefore vs
    → numbered_behind front vs ≡ map alone vs
all_alone front [] before rise = refl
all_alone front (v ∷ vs) before rise =
    let number = ap (λ n. n + 1) (none_before front v (λ u h. before u v h (inl refl))) in
    ap₂ (λ (n : ℕ) (ws : List (ℕ × Ver)). (n, v) ∷ ws) number
    (all_alone (front ++ v ∷ []) vs (before_more front v vs before rise) rise.1)

pub numbered_alone : (vs : List Ver) → IsRising (map (λ v. v.srel) vs) → numbered_behind [] vs ≡ map alone vs
numbered_alone vs rising = all_alone [] vs (λ u w hu hw. absurd hu)
    (ascending_by (λ (v : Ver). v.srel) (λ a b. IsTrue (is_before a b)) vs (ascending _ _ rising))

firsts_alone : (vs : List Ver) → filter is_first (map alone vs) ≡ map alone vs
firsts_alone [] = refl
firsts_alone (v ∷ vs) = ap (λ ws. alone v ∷ ws) (firsts_alone vs)

furthers_alone : (vs : List Ver) → filter (λ v. not (is_first v)) (map alone vs) ≡ []
furthers_alone [] = refl
furthers_alone (v ∷ vs) = furthers_alone vs

-- So all are firsts, and none is a further one.
pub firsts_are : (s : Sysmod) → IsRising (map (λ v. v.srel) s.vers) → first_vers s ≡ map alone s.vers
firsts_are s rising = ap (filter is_first) (numbered_alone s.vers rising) ∙ firsts_alone s.vers

pub no_further : (s : Sysmod) → IsRising (map (λ v. v.srel) s.vers) → further_vers s ≡ []
no_further s rising = ap (filter (λ v. not (is_first v))) (numbered_alone s.vers rising) ∙ furthers_alone s.vers

-- ---- their tables

abbrev pub HasSingles : Sysmod → Type 0
HasSingles s = IsRising (map (λ (v : Ver). v.srel) s.vers)

map_alone : {Y : Type 0} (f : Ver → Y) (vs : List Ver) → map (λ (v : ℕ × Ver). f v.1) (map alone vs) ≡ map f vs
map_alone f [] = refl
map_alone f (v ∷ vs) = ap (λ ys. f v ∷ ys) (map_alone f vs)

flat_map_alone : {Y : Type 0} (f : Ver → List Y) (vs : List Ver)
    → flat_map (λ (v : ℕ × Ver). f v.1) (map alone vs) ≡ flat_map f vs
flat_map_alone f [] = refl
flat_map_alone f (v ∷ vs) = ap (λ ys. f v ++ ys) (flat_map_alone f vs)

pub vers_alone : (s : Sysmod) → HasSingles s → vers_of s ≡ map (ver_row s.id) s.vers
vers_alone s single = ap (map (λ (v : ℕ × Ver). ver_row s.id v.1)) (firsts_are s single)
    ∙ map_alone (ver_row s.id) s.vers

pub ifreqs_alone : (s : Sysmod) → HasSingles s
    → ifreqs_of s ≡ flat_map (λ v. map (ifreq_row s.id v.srel) (enumerate_from 1 v.ifs)) s.vers
ifreqs_alone s single =
    ap (flat_map (λ (v : ℕ × Ver). map (ifreq_row s.id v.1.srel) (enumerate_from 1 v.1.ifs))) (firsts_are s single)
    ∙ flat_map_alone (λ v. map (ifreq_row s.id v.srel) (enumerate_from 1 v.ifs)) s.vers

pub no_morevers : (i : Inventory) → IsOfEarlier i → flat_map morevers_of i.global.sysmods ≡ []
no_morevers i earlier = flat_none morevers_of i.global.sysmods (go i.global.sysmods (all_by HasSingles _ earlier.singles))
  where
    go : (ss : List Sysmod) → AllByRecursion HasSingles ss → AllByRecursion (λ s. morevers_of s ≡ []) ss
    go [] all = tt
    go (s ∷ ss) all = (rw (no_further s all.0) refl, go ss all.1)

pub no_moreifs : (i : Inventory) → IsOfEarlier i → flat_map moreifs_of i.global.sysmods ≡ []
no_moreifs i earlier = flat_none moreifs_of i.global.sysmods (go i.global.sysmods (all_by HasSingles _ earlier.singles))
  where
    go : (ss : List Sysmod) → AllByRecursion HasSingles ss → AllByRecursion (λ s. moreifs_of s ≡ []) ss
    go [] all = tt
    go (s ∷ ss) all = (rw (no_further s all.0) refl, go ss all.1)

-- ---- entries

abbrev IsByFirst : Entry → Type 0
IsByFirst e = IfSome e.applied (λ a. a.number ≡ 1)

pub not_chosen : (zone : Text) (e : Entry) → IsByFirst e → chosen_in zone e ≡ []
not_chosen zone e = by e.applied
  where
    by : (a : Option Applied) → IfSome a (λ v. v.number ≡ 1) → chosen_in zone (record e { applied = a }) ≡ []
    by None first = refl
    by (Some a) first = rw first refl

pub no_chosen : (i : Inventory) → IsOfEarlier i → flat_map chosen_of i.zones ≡ []
no_chosen i earlier = flat_none chosen_of i.zones (go i.zones (all_by _ i.zones earlier.firsts))
  where
    each : (zone : Text) (es : List Entry) → AllByRecursion IsByFirst es → AllByRecursion (λ e. chosen_in zone e ≡ []) es
    each zone [] all = tt
    each zone (e ∷ es) all = (not_chosen zone e all.0, each zone es all.1)

    go : (zs : List NamedZone) → AllByRecursion (λ z. All IsByFirst z.zone.entries) zs
        → AllByRecursion (λ z. chosen_of z ≡ []) zs
    go [] all = tt
    go (z ∷ zs) all = (
      flat_none (chosen_in z.name) z.zone.entries
          (each z.name z.zone.entries (all_by IsByFirst z.zone.entries all.0)),
      go zs all.1,
    )
