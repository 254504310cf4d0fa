-- The rows of SYSMODs rise by their keys, table by table.
use Rattle.std.proofs.Common.{get_or, ◌≡◌, inl, inr, ◌<◌, ℕ, ◌+◌, List, [], ◌∷◌, ◌++◌, map, IsTrue, Ordering, arith}
use Rattle.std.proofs.Common.{Less, Equal, Greater}
use Rattle.std.proofs.Common.{refl, sym, ap, ap₂, subst, ◌∙◌}
use Rattle.std.specs.Prelude.{AllPairs}
use Rattle.std.specs.List.{AllByRecursion, flat_map}
use Rattle.std.specs.Ordering.{is_lt, nat_cmp, ordering_then}
use Rattle.std.specs.Cmp.{nat_cmp_is}
use Rattle.std.specs.Cmp.Lexicographic.{slice_cmp}
use Rattle.std.proofs.lemmas.Cmp.{nat_list_cmp_total, tied_itself}
use Rattle.std.proofs.lemmas.List.Kept.{AllPairs-cons}
use Rattle.std.proofs.lemmas.List.Elements.{All-from_recursion}
use Rattle.sqlite.specs.Tree.{IsAscending}
use Rattle.terms.proofs.Each.{recursion_append, recursion_map, recursion_weaker}
use Rattle.terms.proofs.Orderings.{Less_from_is_lt}
use Rattle.terms.specs.declared.kinds.ElemType.{ElemType}
use Rattle.terms.specs.Types.{Text, Id, IfReq, Ver, Change, Sysmod}
use Rattle.terms.specs.Lookups.{is_before, element_cmp}
use Rattle.terms.specs.Rising.{Rises}
use Rattle.terms.specs.Global.{change_cmp}
use Rattle.terms.specs.contracts.kinds.ElemTypeOrd.TheImpl as type_order
use Rattle.terms.proofs.ElementOrder.{cmp_keys}
use Rattle.store_schema.proofs.WrittenLists.{ascending}
use Rattle.store_schema.proofs.Numbered.{numbered, IsVerBefore}
use Rattle.store_sysmods.specs.declared.head.HeadRow.{HeadRow}
use Rattle.store_sysmods.specs.declared.head.BareHead.{BareHead}
use Rattle.store_sysmods.specs.declared.source.SourceRow.{SourceRow}
use Rattle.store_sysmods.specs.declared.ver.VerRow.{VerRow}
use Rattle.store_sysmods.specs.declared.ifreq.IfRow.{IfRow}
use Rattle.store_sysmods.specs.declared.elem.ElemRow.{ElemRow}
use Rattle.store_sysmods.specs.Heads.{HasHeadForms}
use Rattle.store_sysmod_loads.specs.Runs.{source_rows, if_rows, ver_rows, elem_rows}
use Rattle.store_sysmod_loads.specs.Joined.{bare_of, all_sources}
use Rattle.store_sysmod_loads.specs.Built.{IsBuilt}
use Rattle.store_sysmod_loads.specs.Flats.{head_of, ifs_of, all_vers, all_ifs, all_elems, AreWhole}
use Rattle.store_sysmod_loads.proofs.FlatLemmas.{recursion_flat, ver_parents, elem_parents, if_ids, BelowId}
use Rattle.store_sysmod_loads.proofs.FlatLemmas.{weaker_pairs, numbers_up}
use Rattle.store_sysmod_loads.proofs.JoinLemmas.{source_parents, BelowHead}

asc_append : {X : Type 0} (R : X → X → Type 0) (xs ys : List X) → IsAscending R xs → IsAscending R ys
    → AllByRecursion (λ x. AllByRecursion (R x) ys) xs → IsAscending R (xs ++ ys)
asc_append R [] ys p q cross = q
asc_append R (x ∷ xs) ys p q cross = (recursion_append (R x) xs ys p.0 cross.0, asc_append R xs ys p.1 q cross.1)

pub pairs_from : {X : Type 0} (R : X → X → Type 0) (xs : List X) → IsAscending R xs → AllPairs R xs
pairs_from R [] h = λ i j d less within. absurd (omega (arith, within))
pairs_from R (x ∷ xs) h = AllPairs-cons R x xs (All-from_recursion (R x) xs h.0) (pairs_from R xs h.1)

asc_map : {X Y : Type 0} (g : X → Y) (R : Y → Y → Type 0) (xs : List X) → IsAscending (λ a b. R (g a) (g b)) xs
    → IsAscending R (map g xs)
asc_map g R [] h = tt
asc_map g R (x ∷ xs) h = (recursion_map g (R (g x)) xs h.0, asc_map g R xs h.1)

both : {X : Type 0} (P Q S : X → Type 0) → ((x : X) → P x → Q x → S x) → (xs : List X) → AllByRecursion P xs
    → AllByRecursion Q xs → AllByRecursion S xs
both P Q S f [] p q = tt
both P Q S f (x ∷ xs) p q = (f x p.0 q.0, both P Q S f xs p.1 q.1)

module _ {A B P K : Type 0} (first : P → P → Ordering) (order : K → K → Ordering) (f : A → List B) (id_of : A → P)
    (parent : B → P) (sub : B → K) where
  -- by the parent, and then by what tells its rows apart
  abbrev pub Low : B → B → Type 0
  Low a b = IsTrue (is_lt (ordering_then (first (parent a) (parent b)) (order (sub a) (sub b))))

  abbrev pub LowSub : B → B → Type 0
  LowSub a b = IsTrue (is_lt (order (sub a) (sub b)))

  abbrev IsTied : Type 0
  IsTied = (x : P) → first x x ≡ Equal

  low_same : IsTied → (x : P) (a b : B) → parent a ≡ x → parent b ≡ x → LowSub a b → Low a b
  low_same tied x a b p q h =
      let tie : first (parent a) (parent b) ≡ Equal = ap₂ first p q ∙ tied x in
      subst (λ o. IsTrue (is_lt (ordering_then o (order (sub a) (sub b))))) (sym tie) h

  low_other : (x y : P) (a b : B) → parent a ≡ x → parent b ≡ y → IsTrue (is_lt (first x y)) → Low a b
  low_other x y a b p q h =
      let less : first (parent a) (parent b) ≡ Less = ap₂ first p q ∙ Less_from_is_lt (first x y) h in
      subst (λ o. IsTrue (is_lt (ordering_then o (order (sub a) (sub b))))) (sym less) refl

  of_one : IsTied → (x : P) (bs : List B) → AllByRecursion (λ b. parent b ≡ x) bs → IsAscending LowSub bs
      → IsAscending Low bs
  of_one tied x [] p h = tt
  of_one tied x (b ∷ bs) p h = (
    both (λ c. parent c ≡ x) (LowSub b) (Low b) (λ c q low. low_same tied x b c p.0 q low) bs p.1 h.0,
    of_one tied x bs p.1 h.1,
  )

  -- parents that rise, and rows that rise in each
  pub asc_flat : IsTied → ((a : A) → AllByRecursion (λ b. parent b ≡ id_of a) (f a)) → (xs : List A)
      → IsAscending (λ s t. IsTrue (is_lt (first (id_of s) (id_of t)))) xs
      → AllByRecursion (λ a. IsAscending LowSub (f a)) xs → IsAscending Low (flat_map f xs)
  asc_flat tied each [] up subs = tt
  asc_flat tied each (x ∷ xs) up subs =
      let behind : (b : B) → parent b ≡ id_of x → AllByRecursion (Low b) (flat_map f xs) = λ b p.
      recursion_flat f (λ y. IsTrue (is_lt (first (id_of x) (id_of y)))) (Low b)
      (λ y low. recursion_weaker (λ c. parent c ≡ id_of y) (Low b)
      (λ c q. low_other (id_of x) (id_of y) b c p q low) (f y) (each y)) xs up.0 in
      asc_append Low (f x) (flat_map f xs) (of_one tied (id_of x) (f x) (each x) subs.0)
      (asc_flat tied each xs up.1 subs.1)
      (recursion_weaker (λ b. parent b ≡ id_of x) (λ b. AllByRecursion (Low b) (flat_map f xs)) behind (f x) (each x))

same_text : (x : Text) → slice_cmp nat_cmp x x ≡ Equal
same_text = tied_itself nat_list_cmp_total

pub ids_up : (ss : List Sysmod) → AreWhole ss → IsAscending BelowId ss
ids_up ss h = ascending BelowId ss h.ids

pub heads_rise : (ss : List Sysmod) → AreWhole ss → Rises (slice_cmp nat_cmp) (λ (h : HeadRow). h.id) (map head_of ss)
heads_rise ss h = pairs_from _ (map head_of ss) (asc_map head_of (λ (a b : HeadRow). IsTrue (is_before a.id b.id)) ss
    (ids_up ss h))

pub ids_rise : (ss : List Sysmod) → Rises (slice_cmp nat_cmp) (λ (h : HeadRow). h.id) (map head_of ss)
    → Rises (slice_cmp nat_cmp) (λ (s : Sysmod). s.id) ss
ids_rise ss h = pairs_from _ ss (Rattle.store_schema.proofs.WrittenLists.ascending_by head_of
    (λ (a b : HeadRow). IsTrue (is_before a.id b.id)) ss (ascending _ (map head_of ss) h))

pub bare_rise : (ss : List Sysmod) → AreWhole ss
    → Rises (slice_cmp nat_cmp) (λ (h : BareHead). h.id) (map bare_of (map head_of ss))
bare_rise ss h = pairs_from _ (map bare_of (map head_of ss))
    (asc_map bare_of (λ (a b : BareHead). IsTrue (is_before a.id b.id)) (map head_of ss)
    (ascending BelowHead (map head_of ss) (heads_rise ss h)))

-- by the id, and then by the name or the SREL
abbrev pub text_key_cmp : Id × Text → Id × Text → Ordering
text_key_cmp a b = ordering_then (slice_cmp nat_cmp a.0 b.0) (slice_cmp nat_cmp a.1 b.1)

names_up : (h : HeadRow) → HasHeadForms h → IsAscending (λ (a b : SourceRow). IsTrue (is_before a.name b.name))
    (source_rows h.id h.sources)
names_up h forms = asc_map _ (λ (a b : SourceRow). IsTrue (is_before a.name b.name)) h.sources
    (ascending _ h.sources forms.1.rising)

pub sources_rise : (ss : List Sysmod) → AreWhole ss → AllByRecursion HasHeadForms (map head_of ss)
    → Rises text_key_cmp (λ (r : SourceRow). (r.id, r.name)) (all_sources (map head_of ss))
sources_rise ss h forms =
    pairs_from _ (all_sources (map head_of ss))
    (asc_flat (slice_cmp nat_cmp) (slice_cmp nat_cmp) (λ (h : HeadRow). source_rows h.id h.sources)
    (λ (h : HeadRow). h.id) (λ (r : SourceRow). r.id) (λ (r : SourceRow). r.name) same_text
    (λ h. source_parents h.id h.sources) (map head_of ss)
    (ascending BelowHead (map head_of ss) (heads_rise ss h))
    (recursion_weaker HasHeadForms _ names_up (map head_of ss) forms))

-- by the SREL, and then by the number of the ++VER
abbrev pub ver_sub_cmp : Text × ℕ → Text × ℕ → Ordering
ver_sub_cmp a b = ordering_then (slice_cmp nat_cmp a.0 b.0) (nat_cmp a.1 b.1)

abbrev pub ver_key_cmp : Id × (Text × ℕ) → Id × (Text × ℕ) → Ordering
ver_key_cmp a b = ordering_then (slice_cmp nat_cmp a.0 b.0) (ver_sub_cmp a.1 b.1)

same_ver : (x : Text × ℕ) → ver_sub_cmp x x ≡ Equal
same_ver x = ap (λ o. ordering_then o (nat_cmp x.1 x.1)) (same_text x.0) ∙ sym (nat_cmp_is x.1 x.1 Equal refl)

abbrev IsLowVer : ℕ × Ver → ℕ × Ver → Type 0
IsLowVer a b = IsTrue (is_lt (ver_sub_cmp (a.1.srel, a.0) (b.1.srel, b.0)))

low_ver : (a b : ℕ × Ver) → IsVerBefore a b → IsLowVer a b
low_ver a b (inl before) =
    subst (λ o. IsTrue (is_lt (ordering_then o (nat_cmp a.0 b.0)))) (sym (Less_from_is_lt _ before)) refl
low_ver a b (inr up) =
    let tie : slice_cmp nat_cmp a.1.srel b.1.srel ≡ Equal =
    ap (λ (t : Text). slice_cmp nat_cmp t b.1.srel) up.0 ∙ same_text b.1.srel in
    subst (λ o. IsTrue (is_lt (ordering_then o (nat_cmp a.0 b.0)))) (sym tie)
    (ap is_lt (sym (nat_cmp_is a.0 b.0 Less up.1)))

vers_low : (s : Sysmod) → IsBuilt s → IsAscending IsLowVer (numbered s)
vers_low s h = weaker_pairs IsVerBefore IsLowVer low_ver (numbered s) (numbers_up s h)

vers_up : (s : Sysmod) → IsBuilt s → IsAscending (λ (a b : VerRow).
    IsTrue (is_lt (ver_sub_cmp (a.ver.srel, a.number) (b.ver.srel, b.number)))) (ver_rows s.id (numbered s))
vers_up s h = asc_map _ (λ (a b : VerRow). IsTrue (is_lt (ver_sub_cmp (a.ver.srel, a.number) (b.ver.srel, b.number))))
    (numbered s) (vers_low s h)

pub vers_rise : (ss : List Sysmod) → AreWhole ss
    → Rises ver_key_cmp (λ (r : VerRow). (r.id, (r.ver.srel, r.number))) (all_vers ss)
vers_rise ss h =
    pairs_from _ (all_vers ss)
    (asc_flat (slice_cmp nat_cmp) ver_sub_cmp (λ (s : Sysmod). ver_rows s.id (numbered s)) (λ (s : Sysmod). s.id)
    (λ (r : VerRow). r.id) (λ (r : VerRow). (r.ver.srel, r.number)) same_text
    (λ s. ver_parents s.id (numbered s)) ss (ids_up ss h) (recursion_weaker IsBuilt _ vers_up ss h.built))

-- by the SREL, the ++VER's number and then the own one
abbrev pub if_sub_cmp : Text × (ℕ × ℕ) → Text × (ℕ × ℕ) → Ordering
if_sub_cmp a b =
    ordering_then (slice_cmp nat_cmp a.0 b.0) (ordering_then (nat_cmp a.1.0 b.1.0) (nat_cmp a.1.1 b.1.1))

abbrev pub if_key_cmp : Id × (Text × (ℕ × ℕ)) → Id × (Text × (ℕ × ℕ)) → Ordering
if_key_cmp a b = ordering_then (slice_cmp nat_cmp a.0 b.0) (if_sub_cmp a.1 b.1)

from_here : (x : Id) (srel : Text) (place m n : ℕ) (ifs : List IfReq) → m < n
    → AllByRecursion (λ (b : IfRow). IsTrue (is_lt (nat_cmp m b.number))) (if_rows x srel place n ifs)
from_here x srel place m n [] low = tt
from_here x srel place m n (i ∷ ifs) low = (
  ap is_lt (sym (nat_cmp_is m n Less low)),
  from_here x srel place m (n + 1) ifs (omega (arith, low)),
)

ifs_up : (x : Id) (srel : Text) (place n : ℕ) (ifs : List IfReq) → IsAscending
    (λ (a b : IfRow). IsTrue (is_lt (nat_cmp a.number b.number))) (if_rows x srel place n ifs)
ifs_up x srel place n [] = tt
ifs_up x srel place n (i ∷ ifs) = (
  from_here x srel place n (n + 1) ifs (omega arith),
  ifs_up x srel place (n + 1) ifs,
)

if_places : (x : Id) (srel : Text) (place n : ℕ) (ifs : List IfReq)
    → AllByRecursion (λ (r : IfRow). ◌≡◌ {A = Text × ℕ} (r.srel, r.place) (srel, place)) (if_rows x srel place n ifs)
if_places x srel place n [] = tt
if_places x srel place n (i ∷ ifs) = (refl, if_places x srel place (n + 1) ifs)

all_up : (x : Id) (vers : List (ℕ × Ver)) → AllByRecursion (λ v. IsAscending
    (λ (a b : IfRow). IsTrue (is_lt (nat_cmp a.number b.number))) (if_rows x v.1.srel v.0 1 v.1.ifs)) vers
all_up x [] = tt
all_up x (v ∷ vers) = (ifs_up x v.1.srel v.0 1 v.1.ifs, all_up x vers)

-- three keys in two ways
three : (a b c : Ordering) → ordering_then (ordering_then a b) c ≡ ordering_then a (ordering_then b c)
three Less b c = refl
three Equal b c = refl
three Greater b c = refl

sysmod_ifs_up : (s : Sysmod) → IsBuilt s → IsAscending (λ (a b : IfRow).
    IsTrue (is_lt (if_sub_cmp (a.srel, (a.place, a.number)) (b.srel, (b.place, b.number))))) (ifs_of s.id (numbered s))
sysmod_ifs_up s h =
    weaker_pairs (λ (a b : IfRow). IsTrue (is_lt (ordering_then (ver_sub_cmp (a.srel, a.place) (b.srel, b.place))
    (nat_cmp a.number b.number))))
    (λ (a b : IfRow). IsTrue (is_lt (if_sub_cmp (a.srel, (a.place, a.number)) (b.srel, (b.place, b.number)))))
    (λ a b low. subst (λ o. IsTrue (is_lt o)) (three (slice_cmp nat_cmp a.srel b.srel) (nat_cmp a.place b.place)
    (nat_cmp a.number b.number)) low)
    (ifs_of s.id (numbered s))
    (asc_flat ver_sub_cmp nat_cmp (λ (v : ℕ × Ver). if_rows s.id v.1.srel v.0 1 v.1.ifs)
    (λ (v : ℕ × Ver). (v.1.srel, v.0)) (λ (r : IfRow). (r.srel, r.place)) (λ (r : IfRow). r.number) same_ver
    (λ v. if_places s.id v.1.srel v.0 1 v.1.ifs) (numbered s) (vers_low s h) (all_up s.id (numbered s)))

pub ifs_rise : (ss : List Sysmod) → AreWhole ss
    → Rises if_key_cmp (λ (r : IfRow). (r.id, (r.srel, (r.place, r.number)))) (all_ifs ss)
ifs_rise ss h =
    pairs_from _ (all_ifs ss)
    (asc_flat (slice_cmp nat_cmp) if_sub_cmp (λ (s : Sysmod). ifs_of s.id (numbered s)) (λ (s : Sysmod). s.id)
    (λ (r : IfRow). r.id) (λ (r : IfRow). (r.srel, (r.place, r.number))) same_text
    (λ s. if_ids s.id (numbered s)) ss (ids_up ss h) (recursion_weaker IsBuilt _ sysmod_ifs_up ss h.built))

abbrev pub elem_key_cmp : Id × (ElemType × Text) → Id × (ElemType × Text) → Ordering
elem_key_cmp a b = ordering_then (slice_cmp nat_cmp a.0 b.0) (element_cmp a.1 b.1)

elems_up : (s : Sysmod) → IsBuilt s → IsAscending (λ (a b : ElemRow).
    IsTrue (is_lt (element_cmp (a.change.elem_type, a.change.name) (b.change.elem_type, b.change.name))))
    (elem_rows s.id s.changes)
elems_up s h = asc_map _ _ s.changes (ascending _ s.changes h.changes)

pub elems_rise : (ss : List Sysmod) → AreWhole ss → Rises elem_key_cmp
    (λ (r : ElemRow). (r.id, (r.change.elem_type, r.change.name))) (all_elems ss)
elems_rise ss h =
    pairs_from _ (all_elems ss)
    (asc_flat (slice_cmp nat_cmp) element_cmp (λ (s : Sysmod). elem_rows s.id s.changes) (λ (s : Sysmod). s.id)
    (λ (r : ElemRow). r.id) (λ (r : ElemRow). (r.change.elem_type, r.change.name)) same_text
    (λ s. elem_parents s.id s.changes) ss (ids_up ss h) (recursion_weaker IsBuilt _ elems_up ss h.built))

-- ---- the derived order of types

abbrev pub derived_key_cmp : ElemType × Text → ElemType × Text → Ordering
derived_key_cmp a b = ordering_then (type_order.ghosts.cmp a.0 b.0) (slice_cmp nat_cmp a.1 b.1)

pub changes_derived : (xs : List Change) → Rises change_cmp (λ c. c) xs
    → Rises derived_key_cmp (λ (c : Change). (c.elem_type, c.name)) xs
changes_derived xs h = λ i j d less within.
    let a = get_or xs i d in
    let b = get_or xs j d in
    ap is_lt (cmp_keys (a.elem_type, a.name) (b.elem_type, b.name)) ∙ h i j d less within

abbrev pub derived_elem_cmp : Id × (ElemType × Text) → Id × (ElemType × Text) → Ordering
derived_elem_cmp a b = ordering_then (slice_cmp nat_cmp a.0 b.0) (derived_key_cmp a.1 b.1)

pub elems_derived : (xs : List ElemRow) → Rises elem_key_cmp
    (λ (r : ElemRow). (r.id, (r.change.elem_type, r.change.name))) xs
    → Rises derived_elem_cmp (λ (r : ElemRow). (r.id, (r.change.elem_type, r.change.name))) xs
elems_derived xs h = λ i j d less within.
    let a = get_or xs i d in
    let b = get_or xs j d in
    ap (λ o. is_lt (ordering_then (slice_cmp nat_cmp a.id b.id) o))
    (cmp_keys (a.change.elem_type, a.change.name) (b.change.elem_type, b.change.name)) ∙ h i j d less within
