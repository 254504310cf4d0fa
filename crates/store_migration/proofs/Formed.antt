-- SYSMODs whose rows have their forms have theirs.
use Rattle.std.proofs.Common.{ℕ, ◌+◌, get_or, List, [], ◌∷◌, map, IsTrue}
use Rattle.std.proofs.Common.{sym, subst}
use Rattle.std.specs.Prelude.{All}
use Rattle.std.specs.List.{AllByRecursion}
use Rattle.std.specs.Ordering.{is_lt, nat_cmp}
use Rattle.std.specs.Cmp.Lexicographic.{slice_cmp}
use Rattle.std.proofs.lemmas.List.Elements.{All-from_recursion, recursion_from_All}
use Rattle.terms.proofs.Each.{recursion_weaker, recursion_front, recursion_back, recursion_unmap}
use Rattle.terms.specs.declared.kinds.Kind.{Kind}
use Rattle.terms.specs.declared.kinds.Kind.TheVariants.{Function, Ptf, Apar, Usermod}
use Rattle.terms.specs.declared.kinds.ElemType.{ElemType}
use Rattle.terms.specs.Types.{Text, Id, IfReq, Ver, Action, Replaces, Updates, Change, Sysmod, type_number}
use Rattle.terms.specs.Global.{change_cmp}
use Rattle.store_schema.specs.Forms.{VerSuitsKind, HasSysmodForms, HasVerForms, HasIfForms, HasChangeForms}
use Rattle.store_schema.specs.Forms.{HasActionForms, is_change_before}
use Rattle.store_schema.specs.Earlier.{HasShortSources}
use Rattle.store_schema.specs.Rows.{numbered_behind}
use Rattle.store_schema.specs.declared.schema.Schema.{Schema}
use Rattle.store_schema.specs.declared.schema.Schema.TheVariants.{First, Second, Third}
use Rattle.terms.proofs.Orderings.{lower_first}
use Rattle.store_schema.proofs.Numbered.{numbered_is}
use Rattle.store_sysmod_loads.specs.Built.{MayDo, IsBuilt}
use Rattle.store_sysmods.specs.Heads.{HasHeadForms, HasFormsUnder}
use Rattle.store_sysmods.specs.Vers.{HasVerRowForms}
use Rattle.store_sysmods.specs.Ifs.{HasIfRowForms}
use Rattle.store_sysmods.specs.Elems.{HasElemRowForms}
use Rattle.store_sysmod_loads.specs.Flats.{head_of, ifs_of, all_vers, all_ifs, all_elems, AreFormed}
use Rattle.store_sysmod_loads.specs.Runs.{if_rows, ver_rows, elem_rows}

-- ---- an order by two keys

before_from : (a b : Change) → IsTrue (is_lt (change_cmp a b)) → IsTrue (is_change_before a b)
before_from a b lower =
    lower_first (type_number a.elem_type) (type_number b.elem_type) (slice_cmp nat_cmp a.name b.name) lower

-- ---- one SYSMOD

if_forms : (x : Id) (srel : Text) (place n : ℕ) (ifs : List IfReq)
    → AllByRecursion HasIfRowForms (if_rows x srel place n ifs) → AllByRecursion (HasIfForms x) ifs
if_forms x srel place n [] h = tt
if_forms x srel place n (i ∷ ifs) h = (h.0.2, if_forms x srel place (n + 1) ifs h.1)

ver_forms : (kind : Kind) (x : Id) (v : Ver) → HasVerForms Function x (record v { ifs = [] }) → VerSuitsKind kind v
    → AllByRecursion (HasIfForms x) v.ifs → HasVerForms kind x v
ver_forms kind x v f suits ifs = record {
  srel = f.srel;
  fmid = f.fmid;
  pre = f.pre;
  req = f.req;
  sup = f.sup;
  npre = f.npre;
  del = f.del;
  ifs = All-from_recursion (HasIfForms x) v.ifs ifs;
  suits = suits;
}

abbrev values_of : List (ℕ × Ver) → List Ver
values_of vers = map (λ (v : ℕ × Ver). v.1) vers

all_ver_forms : (kind : Kind) (x : Id) (vers : List (ℕ × Ver)) → AllByRecursion HasVerRowForms (ver_rows x vers)
    → AllByRecursion HasIfRowForms (ifs_of x vers) → AllByRecursion (VerSuitsKind kind) (values_of vers)
    → AllByRecursion (HasVerForms kind x) (values_of vers)
all_ver_forms kind x [] rows ifs suits = tt
all_ver_forms kind x (v ∷ vers) rows ifs suits =
    let own = if_rows x v.1.srel v.0 1 v.1.ifs in
    let rest = ifs_of x vers in (
      ver_forms kind x v.1 rows.0.1 suits.0
          (if_forms x v.1.srel v.0 1 v.1.ifs (recursion_front HasIfRowForms own rest ifs)),
      all_ver_forms kind x vers rows.1 (recursion_back HasIfRowForms own rest ifs) suits.1,
    )

-- so of all ++VERs of a SYSMOD
vers_forms : (kind : Kind) (x : Id) (vers : List Ver)
    → AllByRecursion HasVerRowForms (ver_rows x (numbered_behind [] vers))
    → AllByRecursion HasIfRowForms (ifs_of x (numbered_behind [] vers)) → AllByRecursion (VerSuitsKind kind) vers
    → AllByRecursion (HasVerForms kind x) vers
vers_forms kind x vers rows ifs suits =
    let are = numbered_is [] vers in
    subst (AllByRecursion (HasVerForms kind x)) are (all_ver_forms kind x (numbered_behind [] vers) rows ifs
    (subst (AllByRecursion (VerSuitsKind kind)) (sym are) suits))

action_forms : (kind : Kind) (type : ElemType) (name : Text) (a : Action) → MayDo kind a
    → HasActionForms Ptf type name a → HasActionForms kind type name a
action_forms kind type name (Replaces d l text) may h = h
action_forms Function type name (Updates text) may h = absurd may
action_forms Ptf type name (Updates text) may h = h
action_forms Apar type name (Updates text) may h = (λ e. absurd cc, h.1, h.2, h.3)
action_forms Usermod type name (Updates text) may h = (λ e. absurd cc, h.1, h.2, h.3)

change_forms : (kind : Kind) (x : Id) (changes : List Change) → AllByRecursion HasElemRowForms (elem_rows x changes)
    → AllByRecursion (λ (c : Change). MayDo kind c.action) changes → AllByRecursion (HasChangeForms kind) changes
change_forms kind x [] rows may = tt
change_forms kind x (c ∷ changes) rows may = (
  record { name = rows.0.1.name; action = action_forms kind c.elem_type c.name c.action may.0 rows.0.1.action },
  change_forms kind x changes rows.1 may.1,
)

sysmod_forms : (s : Sysmod) → HasHeadForms (head_of s)
    → AllByRecursion HasVerRowForms (ver_rows s.id (numbered_behind [] s.vers))
    → AllByRecursion HasIfRowForms (ifs_of s.id (numbered_behind [] s.vers))
    → AllByRecursion HasElemRowForms (elem_rows s.id s.changes) → IsBuilt s → HasSysmodForms s
sysmod_forms s head vers ifs elems b = record {
  id = head.0;
  sources = head.1;
  some = b.some;
  vers = All-from_recursion (HasVerForms s.kind s.id) s.vers (vers_forms s.kind s.id s.vers vers ifs
      (recursion_from_All (VerSuitsKind s.kind) s.vers b.suits));
  apart = b.apart;
  most = b.most;
  changes = All-from_recursion (HasChangeForms s.kind) s.changes (change_forms s.kind s.id s.changes elems
      (recursion_from_All (λ (c : Change). MayDo s.kind c.action) s.changes b.does));
  elements = λ i j d up below. before_from (get_or s.changes i d) (get_or s.changes j d) (b.changes i j d up below);
}

-- ---- all

long_forms : (r : Schema) (s : Sysmod) → HasFormsUnder r (head_of s) → HasHeadForms (head_of s)
long_forms First s h = h.0
long_forms Second s h = h
long_forms Third s h = h

all_formed : (r : Schema) (ss : List Sysmod) → AllByRecursion (HasFormsUnder r) (map head_of ss)
    → AllByRecursion HasVerRowForms (all_vers ss) → AllByRecursion HasIfRowForms (all_ifs ss)
    → AllByRecursion HasElemRowForms (all_elems ss) → AllByRecursion IsBuilt ss → AllByRecursion HasSysmodForms ss
all_formed r [] heads vers ifs elems built = tt
all_formed r (s ∷ ss) heads vers ifs elems built = (
  sysmod_forms s (long_forms r s heads.0)
      (recursion_front HasVerRowForms (ver_rows s.id (numbered_behind [] s.vers)) (all_vers ss) vers)
      (recursion_front HasIfRowForms (ifs_of s.id (numbered_behind [] s.vers)) (all_ifs ss) ifs)
      (recursion_front HasElemRowForms (elem_rows s.id s.changes) (all_elems ss) elems) built.0,
  all_formed r ss heads.1 (recursion_back HasVerRowForms (ver_rows s.id (numbered_behind [] s.vers)) (all_vers ss) vers)
      (recursion_back HasIfRowForms (ifs_of s.id (numbered_behind [] s.vers)) (all_ifs ss) ifs)
      (recursion_back HasElemRowForms (elem_rows s.id s.changes) (all_elems ss) elems) built.1,
)

pub sysmods_forms : (r : Schema) (ss : List Sysmod) → AreFormed r ss → All HasSysmodForms ss
sysmods_forms r ss f =
    All-from_recursion HasSysmodForms ss (all_formed r ss f.heads f.vers f.ifs f.elems f.whole.built)

pub short_sources : (ss : List Sysmod) → AreFormed First ss → All HasShortSources ss
short_sources ss f =
    All-from_recursion HasShortSources ss (recursion_weaker (λ s. HasFormsUnder First (head_of s)) HasShortSources
    (λ s h. h.1) ss (recursion_unmap head_of (HasFormsUnder First) ss f.heads))
