-- The SYSMODs of an inventory have their forms, and its rows are theirs.
use Rattle.std.proofs.Common.{get_or, ◌≡◌, ℕ, ◌+◌, List, [], ◌∷◌, ◌++◌, map, arith, refl}
use Rattle.std.specs.List.{AllByRecursion}
use Rattle.std.proofs.lemmas.List.Elements.{recursion_from_All}
use Rattle.std.proofs.lemmas.List.Sorted.{IsPermutation-refl}
use Rattle.sqlite.specs.Effect.{Database}
use Rattle.terms.proofs.Each.{recursion_append}
use Rattle.terms.specs.declared.kinds.Kind.{Kind}
use Rattle.terms.specs.declared.kinds.Kind.TheVariants.{Function, Ptf, Apar, Usermod}
use Rattle.terms.specs.Types.{Text, Id, IfReq, Ver, Action, Replaces, Updates, Change, Sysmod}
use Rattle.terms.specs.Forms.{IsId, IsSrel}
use Rattle.terms.specs.Global.{IsSysmod}
use Rattle.store_schema.specs.Forms.{HasSysmodForms, HasVerForms, HasIfForms, HasChangeForms, HasActionForms}
use Rattle.store_schema.specs.Rows.{number_behind, numbered_behind}
use Rattle.store_schema.proofs.Numbered.{numbered}
use Rattle.store_schema.specs.Inventory.{Inventory, IsInventory}
use Rattle.store_schema.specs.Earlier.{HasShortSources, StandsUnder}
use Rattle.store_schema.specs.declared.schema.Schema.{Schema}
use Rattle.store_schema.specs.declared.schema.Schema.TheVariants.{First, Second, Third}
use Rattle.store_schema.proofs.UnderEach.{rows_under}
use Rattle.store_sysmods.specs.Heads.{HasHeadForms, HasShortForms, HasFormsUnder}
use Rattle.store_sysmods.specs.Vers.{HasVerRowForms}
use Rattle.store_sysmods.specs.Ifs.{HasIfRowForms}
use Rattle.store_sysmods.specs.Elems.{HasElemRowForms}
use Rattle.store_sysmod_loads.specs.Runs.{if_rows, ver_rows, elem_rows}
use Rattle.store_sysmod_loads.specs.Built.{MayDo, IsBuilt}
use Rattle.store_sysmod_loads.specs.Flats.{head_of, ifs_of, AreWhole, AreFormed, AreRowsOf}
use Rattle.store_sysmod_loads.proofs.FlatLemmas.{recursion_flat}

heads_formed : (ss : List Sysmod) → AllByRecursion HasSysmodForms ss → AllByRecursion HasHeadForms (map head_of ss)
heads_formed [] h = tt
heads_formed (s ∷ ss) h = ((h.0.id, h.0.sources), heads_formed ss h.1)

of_any_kind : (kind : Kind) (x : Id) (v : Ver) → HasVerForms kind x v → HasVerForms Function x (record v { ifs = [] })
of_any_kind kind x v h = record {
  srel = h.srel;
  fmid = h.fmid;
  pre = h.pre;
  req = h.req;
  sup = h.sup;
  npre = h.npre;
  del = h.del;
  ifs = λ k d within. absurd (omega (arith, within));
  suits = tt;
}

vers_formed : (kind : Kind) (x : Id) (front vers : List Ver) → IsId x → AllByRecursion (HasVerForms kind x) vers
    → AllByRecursion HasVerRowForms (ver_rows x (numbered_behind front vers))
vers_formed kind x front [] id h = tt
vers_formed kind x front (v ∷ vers) id h = (
  (id, of_any_kind kind x v h.0, refl),
  vers_formed kind x (front ++ v ∷ []) vers id h.1,
)

if_list_formed : (x : Id) (srel : Text) (place n : ℕ) (ifs : List IfReq) → IsId x → IsSrel srel
    → AllByRecursion (HasIfForms x) ifs → AllByRecursion HasIfRowForms (if_rows x srel place n ifs)
if_list_formed x srel place n [] id schema h = tt
if_list_formed x srel place n (i ∷ ifs) id schema h = (
  (id, schema, h.0),
  if_list_formed x srel place (n + 1) ifs id schema h.1,
)

ifs_formed : (kind : Kind) (x : Id) (front vers : List Ver) → IsId x → AllByRecursion (HasVerForms kind x) vers
    → AllByRecursion HasIfRowForms (ifs_of x (numbered_behind front vers))
ifs_formed kind x front [] id h = tt
ifs_formed kind x front (v ∷ vers) id h =
    let place = number_behind front v in
    recursion_append HasIfRowForms (if_rows x v.srel place 1 v.ifs) (ifs_of x (numbered_behind (front ++ v ∷ []) vers))
    (if_list_formed x v.srel place 1 v.ifs id h.0.srel (recursion_from_All (HasIfForms x) v.ifs h.0.ifs))
    (ifs_formed kind x (front ++ v ∷ []) vers id h.1)

action_of_any : (kind : Kind) (c : Change) (a : Action) → HasActionForms kind c.elem_type c.name a
    → HasActionForms Ptf c.elem_type c.name a
action_of_any kind c (Replaces d l text) h = h
action_of_any kind c (Updates text) h = (λ e. absurd (cc), h.1, h.2, h.3)

elems_formed : (kind : Kind) (x : Id) (changes : List Change) → IsId x → AllByRecursion (HasChangeForms kind) changes
    → AllByRecursion HasElemRowForms (elem_rows x changes)
elems_formed kind x [] id h = tt
elems_formed kind x (c ∷ changes) id h = (
  (
    id,
    record {
      name = h.0.name;
      action = action_of_any kind c c.action h.0.action;
    },
  ),
  elems_formed kind x changes id h.1,
)

may_do : (kind : Kind) (c : Change) (a : Action) → HasActionForms kind c.elem_type c.name a → MayDo kind a
may_do Function c (Replaces d l text) h = tt
may_do Function c (Updates text) h = absurd (h.0 refl)
may_do Ptf c a h = tt
may_do Apar c a h = tt
may_do Usermod c a h = tt

is_built : (s : Sysmod) → HasSysmodForms s → IsSysmod s → IsBuilt s
is_built s h k = record {
  some = h.some;
  suits = λ i d within. (h.vers i d within).suits;
  apart = h.apart;
  most = h.most;
  does = λ i d within. let c = get_or s.changes i d in may_do s.kind c c.action (h.changes i d within).action;
  changes = k.changes;
}

all_built : (ss : List Sysmod) → AllByRecursion HasSysmodForms ss → AllByRecursion IsSysmod ss
    → AllByRecursion IsBuilt ss
all_built [] h k = tt
all_built (s ∷ ss) h k = (is_built s h.0 k.0, all_built ss h.1 k.1)

inventory_whole : (i : Inventory) → IsInventory i → AreWhole i.global.sysmods
inventory_whole i h =
    let ss = i.global.sysmods in
    record {
      built = all_built ss (recursion_from_All HasSysmodForms ss h.sysmods) (recursion_from_All IsSysmod ss
          h.global.formed);
      ids = h.global.sysmods;
      none_carried = recursion_from_All (λ (s : Sysmod). s.holds ≡ []) ss h.global.none_carried;
    }

inventory_formed : (r : Schema) (i : Inventory) → IsInventory i
    → AllByRecursion (HasFormsUnder r) (map head_of i.global.sysmods) → AreFormed r i.global.sysmods
inventory_formed r i h heads =
    let ss = i.global.sysmods in
    let forms = recursion_from_All HasSysmodForms ss h.sysmods in
    record {
      heads = heads;
      vers = recursion_flat (λ (s : Sysmod). ver_rows s.id (numbered s)) HasSysmodForms HasVerRowForms
          (λ s f. vers_formed s.kind s.id [] s.vers f.id (recursion_from_All (HasVerForms s.kind s.id) s.vers f.vers))
          ss forms;
      ifs = recursion_flat (λ (s : Sysmod). ifs_of s.id (numbered s)) HasSysmodForms HasIfRowForms
          (λ s f. ifs_formed s.kind s.id [] s.vers f.id (recursion_from_All (HasVerForms s.kind s.id) s.vers f.vers))
          ss forms;
      elems = recursion_flat (λ (s : Sysmod). elem_rows s.id s.changes) HasSysmodForms HasElemRowForms
          (λ s f. elems_formed s.kind s.id s.changes f.id (recursion_from_All (HasChangeForms s.kind) s.changes
          f.changes)) ss forms;
      whole = inventory_whole i h;
    }

short_formed : (ss : List Sysmod) → AllByRecursion HasSysmodForms ss → AllByRecursion HasShortSources ss
    → AllByRecursion HasShortForms (map head_of ss)
short_formed [] h short = tt
short_formed (s ∷ ss) h short = (((h.0.id, h.0.sources), short.0), short_formed ss h.1 short.1)

pub stands_formed : (r : Schema) (i : Inventory) (db : Database) → StandsUnder r i db → AreFormed r i.global.sysmods
stands_formed First i db h =
    let ss = i.global.sysmods in
    inventory_formed First i h.inventory (short_formed ss (recursion_from_All HasSysmodForms ss h.inventory.sysmods)
    (recursion_from_All HasShortSources ss h.sources))
stands_formed Second i db h =
    let ss = i.global.sysmods in
    inventory_formed Second i h.inventory (heads_formed ss (recursion_from_All HasSysmodForms ss h.inventory.sysmods))
stands_formed Third i db h =
    let ss = i.global.sysmods in
    inventory_formed Third i h.inventory (heads_formed ss (recursion_from_All HasSysmodForms ss h.inventory.sysmods))

pub inventory_rows : (r : Schema) (i : Inventory) (db : Database) → StandsUnder r i db
    → AreRowsOf r i.global.sysmods (rows_under r i)
inventory_rows First i db h = record {
  heads = IsPermutation-refl _;
  vers = IsPermutation-refl _;
  ifs = IsPermutation-refl _;
  elems = IsPermutation-refl _;
  more = h.earlier.singles;
}
inventory_rows Second i db h = record {
  heads = (IsPermutation-refl _, IsPermutation-refl _);
  vers = IsPermutation-refl _;
  ifs = IsPermutation-refl _;
  elems = IsPermutation-refl _;
  more = h.earlier.singles;
}
inventory_rows Third i db h = record {
  heads = (IsPermutation-refl _, IsPermutation-refl _);
  vers = IsPermutation-refl _;
  ifs = IsPermutation-refl _;
  elems = IsPermutation-refl _;
  more = (IsPermutation-refl _, IsPermutation-refl _);
}
