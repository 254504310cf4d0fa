-- The rows of a database stand for one inventory at most.
use Rattle.std.proofs.Common.{◌≡◌, ◌≢◌, ◌⊎◌, inl, inr, ℕ, ◌==◌, Bool, true, false, if◌then◌else◌, List, [], ◌∷◌, ◌++◌}
use Rattle.std.proofs.Common.{map, filter, length, IsTrue, AllPairs, arith, sym, Option, None, Some, refl, ap, ap₂}
use Rattle.std.proofs.Common.{subst, ◌∙◌}
use Rattle.std.specs.Prelude.{option_map}
use Rattle.std.specs.Option.{option_map_or}
use Rattle.std.specs.List.{AllByRecursion, flat_map, enumerate_from}
use Rattle.std.proofs.lemmas.List.Sorted.{IsPermutation-sym}
use Rattle.sqlite.specs.declared.types.Value.TheVariants as value
use Rattle.sqlite.specs.Values.{or_null}
use Rattle.sqlite.specs.Effect.{Database}
use Rattle.sqlite.specs.Order.{Row}
use Rattle.sqlite.specs.Schema.{Schema as SqliteSchema}
use Rattle.sqlite.specs.Table.{Table}
use Rattle.sqlite.specs.Tree.{Trees, IsAscending}
use Rattle.sqlite_rules.specs.Lists.{Has}
use Rattle.sqlite_rules.proofs.ListLemmas.{has_filtered, has_kept}
use Rattle.store_rows.specs.Rows.{AreRows, Contents}
use Rattle.store_rows.proofs.RowLemmas.{has_permuted, mapped, unmapped}
use Rattle.terms.specs.declared.kinds.Kind.{Kind}
use Rattle.terms.specs.declared.kinds.Kind.TheVariants.{Function, Ptf, Apar, Usermod}
use Rattle.terms.specs.declared.kinds.ElemType.{ElemType}
use Rattle.terms.specs.declared.kinds.ElemType.TheVariants.{Mac, Src, Clist, Data, Exec, Parm, Proc}
use Rattle.terms.specs.Types.{Text, Id, Lines, type_number, IfReq, Ver, Hold, Action, Replaces, Updates, Applied}
use Rattle.terms.specs.Types.{Change, Sysmod, Entry, Element, Zone, NamedZone, an_applied}
use Rattle.std.specs.Ordering.{is_lt}
use Rattle.terms.specs.Lookups.{is_before, element_key, element_cmp}
use Rattle.terms.specs.Global.{hold_cmp}
use Rattle.terms.proofs.ElementOrder.{element_cmp_total}
use Rattle.terms.proofs.GlobalKept.{hold_cmp_total}
use Rattle.terms.specs.Forms.{IsId}
use Rattle.store_schema.specs.Forms.{AreSorted, AreRecords, IsTextOf, HasIfForms, HasVerForms, HasActionForms}
use Rattle.store_schema.specs.Forms.{HasChangeForms, is_change_before, HasSysmodForms, HasEntryForms, HasElementForms}
use Rattle.store_schema.specs.Forms.{VerSuitsKind}
use Rattle.store_schema.specs.Inventory.{Inventory, IsInventory, IsZoneNamed, empty_inventory}
use Rattle.store_schema.specs.Rows.{sysmod_row, source_row, sources_of, ver_row, vers_of, ifreq_row, ifreqs_of}
use Rattle.store_schema.specs.Rows.{hold_row, action_cells, elem_row, elems_of, zone_row, entry_row, entries_of}
use Rattle.store_schema.specs.Rows.{zelem_row, zelems_of, joined, morever_row, morevers_of, moreif_row, moreifs_of}
use Rattle.store_schema.specs.Rows.{chosen_row, chosen_in, chosen_of, is_first}
use Rattle.store_schema.specs.Tables.{ver, ifreq, hold, elem, zone, entry, zelem, source, morever, moreif, chosen}
use Rattle.store_schema.specs.Tables.{first_tables, second_tables, all_tables}
use Rattle.store_schema.specs.Create.{IsBlank}
use Rattle.store_schema.specs.Stands.{rows_of, StandsFor, HasOneState}
use Rattle.store_schema.specs.Earlier.{first_sysmod_row, first_rows_of, second_rows_of, StandsForFirst, StandsForSecond}
use Rattle.store_schema.specs.Earlier.{IsOfEarlier, schema_under, StandsUnder, IsEarlierStateOf, HasOneEarlierState}
use Rattle.store_schema.specs.declared.schema.Schema.{Schema}
use Rattle.store_schema.specs.declared.schema.Schema.TheVariants.{First, Second, Third}
use Rattle.store_schema.proofs.WrittenLists.{same_sorted, lower_once, one_place, has_all, ascending, ascending_by}
use Rattle.store_schema.proofs.WrittenLists.{flat_has}
use Rattle.store_schema.proofs.WrittenLists.{flat_had, IsLower, numbers_rise, values}
use Rattle.store_schema.proofs.Spelled.{kind_same, hold_same, type_same, zone_same, or_null_same, flag_same}
use Rattle.store_schema.proofs.Spelled.{ids_are_words, sources_are_words, ids_same, text_same, before_once}
use Rattle.store_schema.proofs.Spelled.{not_before_same, pair_once}
use Rattle.store_schema.proofs.Numbered.{numbered, IsVerBefore, ver_once, vers_ascend, vers_service, ver_of, is_further}
use Rattle.store_schema.proofs.Numbered.{first_is, further_is, first_or_further, one_or_other, other_one, one_numbered}
use Rattle.store_schema.proofs.Numbered.{numbered_same}
use Rattle.store_schema.proofs.Singles.{no_morevers, no_moreifs, no_chosen}

-- ---- what one row says

pub same_ids : (a b : List Id) → AreSorted IsId a → AreSorted IsId b → joined a ≡ joined b → a ≡ b
same_ids a b p q e = ids_same a b (ids_are_words a p) (ids_are_words b q) e

pub if_same : (x y : Id) (a b : IfReq) → HasIfForms x a → HasIfForms y b → a.function ≡ b.function
    → joined a.req ≡ joined b.req → a ≡ b
if_same x y a b p q function e =
    let req = same_ids a.req b.req p.req.listed q.req.listed e in
    ap₂ (λ f r. record { function = f; req = r }) function req

both_same : {A B : Type 0} (a b : A × B) → a.0 ≡ b.0 → a.1 ≡ b.1 → a ≡ b
both_same {A} {B} a b p q = ap₂ (λ (x : A) (y : B). (x, y)) p q

-- all of a ++VER but its ++IFs
pub record HaveOneHead (a b : Ver) : Type 0 where
  pub srel : a.srel ≡ b.srel
  pub fmid : a.fmid ≡ b.fmid
  pub pre : a.pre ≡ b.pre
  pub req : a.req ≡ b.req
  pub sup : a.sup ≡ b.sup
  pub npre : a.npre ≡ b.npre
  pub del : a.del ≡ b.del

pub one_head : (j k : Kind) (x y : Id) (a b : Ver) → HasVerForms j x a → HasVerForms k y b → ver_row x a ≡ ver_row y b
    → HaveOneHead a b
one_head j k x y a b p q e = record {
  srel = cc;
  fmid = or_null_same a.fmid b.fmid cc;
  pre = same_ids a.pre b.pre p.pre.listed q.pre.listed cc;
  req = same_ids a.req b.req p.req.listed q.req.listed cc;
  sup = same_ids a.sup b.sup p.sup.listed q.sup.listed cc;
  npre = same_ids a.npre b.npre p.npre.listed q.npre.listed cc;
  del = same_ids a.del b.del p.del.listed q.del.listed cc;
}

-- no service has NPRE or DELETE
pub service_suits : (k : Kind) (v : Ver) → k ≢ Function → VerSuitsKind k v → (v.npre ≡ []) × (v.del ≡ [])
service_suits Function v other h = absurd (other refl)
service_suits Ptf v other h = (h.1, h.2)
service_suits Apar v other h = (h.1, h.2)
service_suits Usermod v other h = (h.1, h.2)

pub one_more_head : (j k : Kind) (x y : Id) (a b : ℕ × Ver) → HasVerForms j x a.1 → HasVerForms k y b.1
    → j ≢ Function → k ≢ Function → morever_row x a ≡ morever_row y b → HaveOneHead a.1 b.1
one_more_head j k x y a b p q service_a service_b e =
    let none_a = service_suits j a.1 service_a p.suits in
    let none_b = service_suits k b.1 service_b q.suits in
    record {
      srel = cc;
      fmid = or_null_same a.1.fmid b.1.fmid cc;
      pre = same_ids a.1.pre b.1.pre p.pre.listed q.pre.listed cc;
      req = same_ids a.1.req b.1.req p.req.listed q.req.listed cc;
      sup = same_ids a.1.sup b.1.sup p.sup.listed q.sup.listed cc;
      npre = none_a.0 ∙ sym none_b.0;
      del = none_a.1 ∙ sym none_b.1;
    }

pub ver_is : (a b : Ver) → HaveOneHead a b → a.ifs ≡ b.ifs → a ≡ b
ver_is a b h ifs =
    ap (λ x. record a { srel = x }) h.srel
    ∙ ap (λ x. record a { srel = b.srel; fmid = x }) h.fmid
    ∙ ap (λ x. record a { srel = b.srel; fmid = b.fmid; pre = x }) h.pre
    ∙ ap (λ x. record a { srel = b.srel; fmid = b.fmid; pre = b.pre; req = x }) h.req
    ∙ ap (λ x. record b { sup = x; npre = a.npre; del = a.del; ifs = a.ifs }) h.sup
    ∙ ap (λ x. record b { npre = x; del = a.del; ifs = a.ifs }) h.npre
    ∙ ap (λ x. record b { del = x; ifs = a.ifs }) h.del
    ∙ ap (λ x. record b { ifs = x }) ifs

pub hold_is : (a b : Hold) → hold_row a ≡ hold_row b → a ≡ b
hold_is a b e =
    let id : a.id ≡ b.id = cc in
    let kind : a.kind ≡ b.kind = hold_same a.kind b.kind cc in
    let reason : a.reason ≡ b.reason = cc in
    let fmid : a.fmid ≡ b.fmid = cc in
    let class : a.class ≡ b.class = or_null_same a.class b.class cc in
    let date : a.date ≡ b.date = or_null_same a.date b.date cc in
    let comment : a.comment ≡ b.comment = or_null_same a.comment b.comment cc in
    let internal : a.internal ≡ b.internal = flag_same a.internal b.internal cc in
    ap (λ x. record a { id = x }) id
    ∙ ap (λ x. record a { id = b.id; kind = x }) kind
    ∙ ap (λ x. record a { id = b.id; kind = b.kind; reason = x }) reason
    ∙ ap (λ x. record a { id = b.id; kind = b.kind; reason = b.reason; fmid = x }) fmid
    ∙ ap (λ x. record b { class = x; date = a.date; comment = a.comment; internal = a.internal }) class
    ∙ ap (λ x. record b { date = x; comment = a.comment; internal = a.internal }) date
    ∙ ap (λ x. record b { comment = x; internal = a.internal }) comment
    ∙ ap (λ x. record b { internal = x }) internal

pub are_records : (type : ElemType) (text : Lines) → IsTextOf type text → AreRecords text
are_records Mac text h = h.0
are_records Src text h = h.0
are_records Clist text h = h
are_records Data text h = h
are_records Exec text h = h
are_records Parm text h = h
are_records Proc text h = h

action_same : (j k : Kind) (s t : ElemType) (n m : Text) (a b : Action) → HasActionForms j s n a
    → HasActionForms k t m b → action_cells a ≡ action_cells b → a ≡ b
action_same j k s t n m (Replaces d l x) (Replaces f g y) p q e =
    let text : x ≡ y = text_same x y (are_records s x p.2) (are_records t y q.2) cc in
    let dist : d ≡ f = cc in
    let sys : l ≡ g = cc in
    cc
action_same j k s t n m (Replaces d l x) (Updates y) p q e = absurd cc
action_same j k s t n m (Updates x) (Replaces f g y) p q e = absurd cc
action_same j k s t n m (Updates x) (Updates y) p q e = ap Updates (text_same x y p.2 q.2 cc)

pub change_is : (j k : Kind) (x y : Id) (a b : Change) → HasChangeForms j a → HasChangeForms k b
    → elem_row x a ≡ elem_row y b → a ≡ b
change_is j k x y a b p q e =
    let type : a.elem_type ≡ b.elem_type = type_same a.elem_type b.elem_type cc in
    let name : a.name ≡ b.name = cc in
    let action : a.action ≡ b.action = action_same j k a.elem_type b.elem_type a.name b.name a.action b.action p.action
    q.action cc in
    ap (λ z. record a { elem_type = z }) type
    ∙ ap (λ z. record b { name = z; action = a.action }) name
    ∙ ap (λ z. record b { action = z }) action

-- the number of what is applied, and 1 otherwise
abbrev pub number_of : Option Applied → ℕ
number_of a = option_map_or (λ (v : Applied). v.number) a 1

-- the date and the number tell apart when something was applied
applied_same : (a b : Option Applied) → number_of a ≡ number_of b
    → or_null value.Text (option_map (λ v. v.date) a) ≡ or_null value.Text (option_map (λ v. v.date) b) → a ≡ b
applied_same None None n e = refl
applied_same None (Some b) n e = absurd cc
applied_same (Some a) None n e = absurd cc
applied_same (Some a) (Some b) n e =
    let date : a.date ≡ b.date = cc in
    ap₂ (λ d m. Some (an_applied d m)) date n

pub entry_is : (x y : Text) (a b : Entry) → number_of a.applied ≡ number_of b.applied
    → AreSorted IsId a.supby → AreSorted IsId b.supby → AreSorted IsId a.waived → AreSorted IsId b.waived
    → entry_row x a ≡ entry_row y b → a ≡ b
entry_is x y a b number sup_a sup_b waived_a waived_b e =
    let id : a.id ≡ b.id = cc in
    let applied : a.applied ≡ b.applied = applied_same a.applied b.applied number cc in
    let supby : a.supby ≡ b.supby = same_ids a.supby b.supby sup_a sup_b cc in
    let delby : a.delby ≡ b.delby = or_null_same a.delby b.delby cc in
    let waived : a.waived ≡ b.waived = same_ids a.waived b.waived waived_a waived_b cc in
    ap (λ z. record a { id = z }) id
    ∙ ap (λ z. record a { id = b.id; applied = z }) applied
    ∙ ap (λ z. record b { supby = z; delby = a.delby; waived = a.waived }) supby
    ∙ ap (λ z. record b { delby = z; waived = a.waived }) delby
    ∙ ap (λ z. record b { waived = z }) waived

-- an entry has a row for its number, if any, and no other
chosen_there : (name : Text) (e : Entry) → number_of e.applied ≢ 1
    → Has (chosen_in name e) (chosen_row name e.id (number_of e.applied))
chosen_there name e other = by e.applied other
  where
    by : (a : Option Applied) → number_of a ≢ 1
        → Has (chosen_in name (record e { applied = a })) (chosen_row name e.id (number_of a))
    by None other = absurd (other refl)
    by (Some a) other = rw (other_one a.number other) (inl refl)

chosen_had : (name : Text) (e : Entry) (r : Row) → Has (chosen_in name e) r
    → r ≡ chosen_row name e.id (number_of e.applied)
chosen_had name e r = by e.applied
  where
    by : (a : Option Applied) → Has (chosen_in name (record e { applied = a })) r
        → r ≡ chosen_row name e.id (number_of a)
    by None h = absurd h
    by (Some a) h = go (a.number == 1) h
      where
        go : (b : Bool) → Has (if b then [] else chosen_row name e.id a.number ∷ []) r
            → r ≡ chosen_row name e.id a.number
        go true h = absurd h
        go false h = elim h [ inl same ↦ same | inr none ↦ absurd none ]

pub element_is : (x y : Text) (a b : Element) → HasElementForms a → HasElementForms b → zelem_row x a ≡ zelem_row y b
    → a ≡ b
element_is x y a b p q e =
    let type : a.elem_type ≡ b.elem_type = type_same a.elem_type b.elem_type cc in
    let name : a.name ≡ b.name = cc in
    let fmid : a.fmid ≡ b.fmid = cc in
    let rmid : a.rmid ≡ b.rmid = cc in
    let umids : a.umids ≡ b.umids = same_ids a.umids b.umids p.umids q.umids cc in
    let dist : a.distlib ≡ b.distlib = cc in
    let sys : a.syslib ≡ b.syslib = cc in
    let text : a.text ≡ b.text = text_same a.text b.text (are_records a.elem_type a.text p.text)
    (are_records b.elem_type b.text q.text) cc in
    ap (λ z. record a { elem_type = z }) type
    ∙ ap (λ z. record a { elem_type = b.elem_type; name = z }) name
    ∙ ap (λ z. record a { elem_type = b.elem_type; name = b.name; fmid = z }) fmid
    ∙ ap (λ z. record a { elem_type = b.elem_type; name = b.name; fmid = b.fmid; rmid = z }) rmid
    ∙ ap (λ z. record b { umids = z; distlib = a.distlib; syslib = a.syslib; text = a.text }) umids
    ∙ ap (λ z. record b { distlib = z; syslib = a.syslib; text = a.text }) dist
    ∙ ap (λ z. record b { syslib = z; text = a.text }) sys
    ∙ ap (λ z. record b { text = z }) text

-- ---- the orders of members

abbrev pub IsBelow : {X : Type 0} → (X → Text) → X → X → Type 0
IsBelow key a b = IsTrue (is_before (key a) (key b))

below_once : {X : Type 0} (key : X → Text) (a b : X) → IsBelow key a b → ¬ IsBelow key b a
below_once key a b = before_once (key a) (key b)

-- of members that rise by a key, those with one key are one
one_of_key : {X : Type 0} (key : X → Text) (xs : List X) (a b : X) → IsAscending (IsBelow key) xs → Has xs a → Has xs b
    → key a ≡ key b → a ≡ b
one_of_key key xs a b rise h k e = one_place (IsBelow key) (below_once key) xs a b rise h k (not_before_same _ _ e)
    (not_before_same _ _ (sym e))

rise_by : {X : Type 0} (key : X → Text) (xs : List X) → AllPairs (λ a b. IsTrue (is_before a b)) (map key xs)
    → IsAscending (IsBelow key) xs
rise_by key xs h = ascending_by key (λ a b. IsTrue (is_before a b)) xs (ascending _ _ h)

change_once : (a b : Change) → IsTrue (is_change_before a b) → ¬ IsTrue (is_change_before b a)
change_once a b = pair_once (type_number a.elem_type) (type_number b.elem_type) (is_before a.name b.name)
    (is_before b.name a.name) (before_once a.name b.name)

element_once : (a b : Element) → IsTrue (is_lt (element_cmp (element_key a) (element_key b)))
    → ¬ IsTrue (is_lt (element_cmp (element_key b) (element_key a)))
element_once a b = lower_once element_cmp_total (element_key a) (element_key b)

hold_once : (a b : Hold) → IsTrue (is_lt (hold_cmp a b)) → ¬ IsTrue (is_lt (hold_cmp b a))
hold_once a b = lower_once hold_cmp_total a b

-- ---- what the rows of one inventory say of another

record IsWithin (i j : Inventory) : Type 0 where
  sysmods : (s : Sysmod) → Has i.global.sysmods s
      → (t : Sysmod) × Has j.global.sysmods t × (s.id ≡ t.id) × (s.kind ≡ t.kind)
  sources : (s t : Sysmod) → Has i.global.sysmods s → Has j.global.sysmods t → s.id ≡ t.id → (name : Text)
      → Has s.sources name → Has t.sources name
  vers : (r : Row) → Has (flat_map vers_of i.global.sysmods) r → Has (flat_map vers_of j.global.sysmods) r
  ifreqs : (r : Row) → Has (flat_map ifreqs_of i.global.sysmods) r → Has (flat_map ifreqs_of j.global.sysmods) r
  morevers : (r : Row) → Has (flat_map morevers_of i.global.sysmods) r → Has (flat_map morevers_of j.global.sysmods) r
  moreifs : (r : Row) → Has (flat_map moreifs_of i.global.sysmods) r → Has (flat_map moreifs_of j.global.sysmods) r
  holds : (r : Row) → Has (map hold_row i.global.holds) r → Has (map hold_row j.global.holds) r
  elems : (r : Row) → Has (flat_map elems_of i.global.sysmods) r → Has (flat_map elems_of j.global.sysmods) r
  zones : (r : Row) → Has (map zone_row i.zones) r → Has (map zone_row j.zones) r
  entries : (r : Row) → Has (flat_map entries_of i.zones) r → Has (flat_map entries_of j.zones) r
  zelems : (r : Row) → Has (flat_map zelems_of i.zones) r → Has (flat_map zelems_of j.zones) r
  chosens : (r : Row) → Has (flat_map chosen_of i.zones) r → Has (flat_map chosen_of j.zones) r

sysmods_rise : (i : Inventory) → IsInventory i → IsAscending (IsBelow (λ (s : Sysmod). s.id)) i.global.sysmods
sysmods_rise i p = ascending _ _ p.global.sysmods

pub zones_rise : (i : Inventory) → IsInventory i → IsAscending (IsBelow (λ (z : NamedZone). z.name)) i.zones
zones_rise i p = rise_by (λ (z : NamedZone). z.name) i.zones p.names

forms : (i : Inventory) → IsInventory i → (s : Sysmod) → Has i.global.sysmods s → HasSysmodForms s
forms i p s h = has_all HasSysmodForms i.global.sysmods s p.sysmods h

own : (j : Inventory) → IsInventory j → (s t : Sysmod) → Has j.global.sysmods t → s.id ≡ t.id → (u : Sysmod)
    → Has j.global.sysmods u → s.id ≡ u.id → u ≡ t
own j q s t ht same u hu e =
    one_of_key (λ (x : Sysmod). x.id) j.global.sysmods u t (sysmods_rise j q) hu ht (sym e ∙ same)

-- What the rows of numbered ++VERs of one sort, and of their ++IFs, say of them.
module _ (sort : ℕ × Ver → Bool) where
  abbrev TellsVer : (Id → ℕ × Ver → Row) → Type 0
  TellsVer row = (s t : Sysmod) (v w : ℕ × Ver) → HasSysmodForms s → HasSysmodForms t → Has (numbered s) v
      → Has (numbered t) w → sort v ≡ true → sort w ≡ true → row s.id v ≡ row t.id w
      → (s.id ≡ t.id) × (v.0 ≡ w.0) × HaveOneHead v.1 w.1

  abbrev TellsIf : (Id → ℕ × Ver → ℕ × IfReq → Row) → Type 0
  TellsIf row = (s t : Sysmod) (v w : ℕ × Ver) (f g : ℕ × IfReq) → HasIfForms s.id f.1 → HasIfForms t.id g.1
      → sort v ≡ true → sort w ≡ true → row s.id v f ≡ row t.id w g
      → (s.id ≡ t.id) × (v.0 ≡ w.0) × (v.1.srel ≡ w.1.srel) × (f ≡ g)

  -- the rows of some SYSMODs
  abbrev ver_rows : (Id → ℕ × Ver → Row) → List Sysmod → List Row
  ver_rows row = flat_map (λ s. map (row s.id) (filter sort (numbered s)))

  abbrev if_rows : (Id → ℕ × Ver → ℕ × IfReq → Row) → List Sysmod → List Row
  if_rows row = flat_map (λ s. flat_map (λ v. map (row s.id v) (enumerate_from 1 v.1.ifs)) (filter sort (numbered s)))

  module _ (i j : Inventory) (p : IsInventory i) (q : IsInventory j) (s t : Sysmod) (hs : Has i.global.sysmods s)
      (ht : Has j.global.sysmods t) (same : s.id ≡ t.id) where
    ver_found : (row : Id → ℕ × Ver → Row) → TellsVer row → (v w : ℕ × Ver) (u : Sysmod) → Has (numbered s) v
        → sort v ≡ true → Has j.global.sysmods u → Has (filter sort (numbered u)) w → row s.id v ≡ row u.id w
        → (x : ℕ × Ver) × Has (numbered t) x × (v.0 ≡ x.0) × HaveOneHead v.1 x.1
    ver_found row tells v w u hv is hu hw e =
        let there = has_filtered sort (numbered u) w hw in
        let told = tells s u v w (forms i p s hs) (forms j q u hu) hv there.0 is there.1 e in
        let one : u ≡ t = own j q s t ht same u hu told.0 in
        (w, subst (λ (x : Sysmod). Has (numbered x) w) one there.0, told.1, told.2)

    ver_had : (row : Id → ℕ × Ver → Row) → TellsVer row
        → ((r : Row) → Has (ver_rows row i.global.sysmods) r → Has (ver_rows row j.global.sysmods) r)
        → (v : ℕ × Ver) → Has (numbered s) v → sort v ≡ true
        → (w : ℕ × Ver) × Has (numbered t) w × (v.0 ≡ w.0) × HaveOneHead v.1 w.1
    ver_had row tells rows v hv is =
        let found = flat_had (λ (x : Sysmod). map (row x.id) (filter sort (numbered x))) j.global.sysmods _
        (rows (row s.id v) (flat_has (λ (x : Sysmod). map (row x.id) (filter sort (numbered x))) i.global.sysmods s _ hs
        (mapped (row s.id) (filter sort (numbered s)) v (has_kept sort (numbered s) v hv is)))) in
        let it = unmapped (row found.0.id) (filter sort (numbered found.0)) (row s.id v) found.2 in
        ver_found row tells v it.0 found.0 hv is found.1 it.1 it.2

    -- the ++IFs of its ++VERs have forms
    if_forms : (k : Inventory) → IsInventory k → (u : Sysmod) → Has k.global.sysmods u → (v : ℕ × Ver)
        → Has (numbered u) v → (f : ℕ × IfReq) → Has (enumerate_from 1 v.1.ifs) f → HasIfForms u.id f.1
    if_forms k r u hu v hv f hf =
        has_all (HasIfForms u.id) v.1.ifs f.1
        (has_all (HasVerForms u.kind u.id) u.vers v.1 (forms k r u hu).vers (ver_of u v hv)).ifs
        (subst (λ l. Has l f.1) (values 1 v.1.ifs) (mapped (λ (y : ℕ × IfReq). y.1) _ f hf))

    if_found : (row : Id → ℕ × Ver → ℕ × IfReq → Row) → TellsIf row → (v w x : ℕ × Ver) (u : Sysmod) (f g : ℕ × IfReq)
        → Has (numbered s) v → sort v ≡ true → Has (numbered t) w → v.0 ≡ w.0 → v.1.srel ≡ w.1.srel
        → Has (enumerate_from 1 v.1.ifs) f → Has j.global.sysmods u → Has (filter sort (numbered u)) x
        → Has (enumerate_from 1 x.1.ifs) g → row s.id v f ≡ row u.id x g → Has (enumerate_from 1 w.1.ifs) f
    if_found row tells v w x u f g hv is hw number srel hf hu hx hg e =
        let there = has_filtered sort (numbered u) x hx in
        let told = tells s u v x f g (if_forms i p s hs v hv f hf) (if_forms j q u hu x there.0 g hg) is there.1 e in
        let one : u ≡ t = own j q s t ht same u hu told.0 in
        let place : x ≡ w = one_numbered t (forms j q t ht) x w (subst (λ (y : Sysmod). Has (numbered y) x) one there.0)
        hw (sym told.1 ∙ number) (sym told.2 ∙ srel) in
        subst (λ (y : ℕ × Ver). Has (enumerate_from 1 y.1.ifs) f) place
        (subst (Has (enumerate_from 1 x.1.ifs)) (sym told.3) hg)

    ifs_of : (Id → ℕ × Ver → ℕ × IfReq → Row) → Sysmod → List Row
    ifs_of row x = flat_map (λ (y : ℕ × Ver). map (row x.id y) (enumerate_from 1 y.1.ifs)) (filter sort (numbered x))

    if_had : (row : Id → ℕ × Ver → ℕ × IfReq → Row) → TellsIf row
        → ((r : Row) → Has (if_rows row i.global.sysmods) r → Has (if_rows row j.global.sysmods) r)
        → (v w : ℕ × Ver) → Has (numbered s) v → sort v ≡ true → Has (numbered t) w → v.0 ≡ w.0 → v.1.srel ≡ w.1.srel
        → (f : ℕ × IfReq) → Has (enumerate_from 1 v.1.ifs) f → Has (enumerate_from 1 w.1.ifs) f
    unfolding ifs_of
    if_had row tells rows v w hv is hw number srel f hf =
        let here = flat_has (λ (y : ℕ × Ver). map (row s.id y) (enumerate_from 1 y.1.ifs)) (filter sort (numbered s)) v
        (row s.id v f) (has_kept sort (numbered s) v hv is) (mapped (row s.id v) _ f hf) in
        let found = flat_had (ifs_of row) j.global.sysmods (row s.id v f) (rows (row s.id v f)
        (flat_has (ifs_of row) i.global.sysmods s (row s.id v f) hs here)) in
        let inner = flat_had (λ (y : ℕ × Ver). map (row found.0.id y) (enumerate_from 1 y.1.ifs))
        (filter sort (numbered found.0)) (row s.id v f) found.2 in
        let it = unmapped (row found.0.id inner.0) (enumerate_from 1 inner.0.1.ifs) (row s.id v f) inner.2 in
        if_found row tells v w inner.0 found.0 f it.0 hv is hw number srel hf found.1 inner.1 it.1 it.2

first_told : TellsVer is_first (λ x v. ver_row x v.1)
first_told s t v w f g hv hw first_v first_w e = (
  cc,
  first_is v first_v ∙ sym (first_is w first_w),
  one_head s.kind t.kind s.id t.id v.1 w.1 (has_all (HasVerForms s.kind s.id) s.vers v.1 f.vers (ver_of s v hv))
      (has_all (HasVerForms t.kind t.id) t.vers w.1 g.vers (ver_of t w hw)) e,
)

further_told : TellsVer is_further morever_row
further_told s t v w f g hv hw further_v further_w e = (
  cc,
  cc,
  one_more_head s.kind t.kind s.id t.id v w (has_all (HasVerForms s.kind s.id) s.vers v.1 f.vers (ver_of s v hv))
      (has_all (HasVerForms t.kind t.id) t.vers w.1 g.vers (ver_of t w hw))
      (vers_service s f v hv (further_is v further_v)) (vers_service t g w hw (further_is w further_w)) e,
)

first_if_told : TellsIf is_first (λ x v. ifreq_row x v.1.srel)
first_if_told s t v w f g forms_f forms_g first_v first_w e = (
  cc,
  first_is v first_v ∙ sym (first_is w first_w),
  cc,
  let number : f.0 ≡ g.0 = cc in
      let function : f.1.function ≡ g.1.function = cc in
      let req : joined f.1.req ≡ joined g.1.req = cc in
      both_same f g number (if_same s.id t.id f.1 g.1 forms_f forms_g function req),
)

further_if_told : TellsIf is_further (λ x v. moreif_row x v.1.srel v.0)
further_if_told s t v w f g forms_f forms_g further_v further_w e = (
  cc,
  cc,
  cc,
  let number : f.0 ≡ g.0 = cc in
      let function : f.1.function ≡ g.1.function = cc in
      let req : joined f.1.req ≡ joined g.1.req = cc in
      both_same f g number (if_same s.id t.id f.1 g.1 forms_f forms_g function req),
)

-- of SYSMODs with one id in the two inventories, what the first has the second has
module _ (i j : Inventory) (p : IsInventory i) (q : IsInventory j) (to : IsWithin i j) (s t : Sysmod)
    (hs : Has i.global.sysmods s) (ht : Has j.global.sysmods t) (same : s.id ≡ t.id) where
  ver_in : (v : ℕ × Ver) → Has (numbered s) v
      → (w : ℕ × Ver) × Has (numbered t) w × (v.0 ≡ w.0) × HaveOneHead v.1 w.1
  ver_in v hv = elim (first_or_further v) [
    | inl first ↦ ver_had is_first i j p q s t hs ht same (λ x v. ver_row x v.1) first_told to.vers v hv first
    | inr further ↦ ver_had is_further i j p q s t hs ht same morever_row further_told to.morevers v hv further
  ]

  if_in : (v w : ℕ × Ver) → Has (numbered s) v → Has (numbered t) w → v.0 ≡ w.0 → v.1.srel ≡ w.1.srel
      → (f : ℕ × IfReq) → Has (enumerate_from 1 v.1.ifs) f → Has (enumerate_from 1 w.1.ifs) f
  if_in v w hv hw number srel f hf = elim (first_or_further v) [
    | inl first ↦ if_had is_first i j p q s t hs ht same (λ x v. ifreq_row x v.1.srel) first_if_told to.ifreqs v w hv
        first hw number srel f hf
    | inr further ↦ if_had is_further i j p q s t hs ht same (λ x v. moreif_row x v.1.srel v.0) further_if_told
        to.moreifs v w hv further hw number srel f hf
  ]

  change_found : (c d : Change) (u : Sysmod) → Has s.changes c → Has j.global.sysmods u → Has u.changes d
      → elem_row s.id c ≡ elem_row u.id d → Has t.changes c
  change_found c d u hc hu hd e =
      let is : u ≡ t = own j q s t ht same u hu cc in
      let a = has_all (HasChangeForms s.kind) s.changes c (forms i p s hs).changes hc in
      let b = has_all (HasChangeForms u.kind) u.changes d (forms j q u hu).changes hd in
      let equal : c ≡ d = change_is s.kind u.kind s.id u.id c d a b e in
      subst (λ (x : Sysmod). Has x.changes c) is (subst (Has u.changes) (sym equal) hd)

  change_in : (c : Change) → Has s.changes c → Has t.changes c
  change_in c hc =
      let found = flat_had elems_of j.global.sysmods _ (to.elems (elem_row s.id c)
      (flat_has elems_of i.global.sysmods s _ hs (mapped (elem_row s.id) s.changes c hc))) in
      let it = unmapped (elem_row found.0.id) found.0.changes (elem_row s.id c) found.2 in
      change_found c it.0 found.0 hc found.1 it.1 it.2

-- the same both ways
module _ (i j : Inventory) (p : IsInventory i) (q : IsInventory j) (to : IsWithin i j) (from : IsWithin j i)
    (s t : Sysmod) (hs : Has i.global.sysmods s) (ht : Has j.global.sysmods t) (same : s.id ≡ t.id) where
  ver_kept : (v : ℕ × Ver) → Has (numbered s) v → Has (numbered t) v
  ver_kept v hv =
      let it = ver_in i j p q to s t hs ht same v hv in
      let w = it.0 in
      let listed : enumerate_from 1 v.1.ifs ≡ enumerate_from 1 w.1.ifs =
      same_sorted IsLower (λ a b low high. absurd (omega arith)) _ _ (numbers_rise 1 v.1.ifs) (numbers_rise 1 w.1.ifs)
      (if_in i j p q to s t hs ht same v w hv it.1 it.2 it.3.srel)
      (if_in j i q p from t s ht hs (sym same) w v it.1 hv (sym it.2) (sym it.3.srel)) in
      let ifs : v.1.ifs ≡ w.1.ifs =
      sym (values 1 v.1.ifs) ∙ ap (map (λ (f : ℕ × IfReq). f.1)) listed ∙ values 1 w.1.ifs in
      subst (Has (numbered t)) (sym (both_same v w it.2 (ver_is v.1 w.1 it.3 ifs))) it.1

  sources_same : s.sources ≡ t.sources
  sources_same = same_sorted (λ a b. IsTrue (is_before a b)) before_once _ _
      (ascending _ _ (forms i p s hs).sources.rising) (ascending _ _ (forms j q t ht).sources.rising)
      (to.sources s t hs ht same) (from.sources t s ht hs (sym same))

  changes_same : s.changes ≡ t.changes
  changes_same = same_sorted (λ a b. IsTrue (is_change_before a b)) change_once _ _
      (ascending _ _ (forms i p s hs).elements) (ascending _ _ (forms j q t ht).elements)
      (change_in i j p q to s t hs ht same) (change_in j i q p from t s ht hs (sym same))

module _ (i j : Inventory) (p : IsInventory i) (q : IsInventory j) (to : IsWithin i j) (from : IsWithin j i) where
  sysmod_found : (s t : Sysmod) → Has i.global.sysmods s → Has j.global.sysmods t → s.id ≡ t.id → s.kind ≡ t.kind
      → s ≡ t
  sysmod_found s t hs ht id kind =
      let sources : s.sources ≡ t.sources = sources_same i j p q to from s t hs ht id in
      let vers : s.vers ≡ t.vers = numbered_same s t (same_sorted IsVerBefore ver_once _ _
      (vers_ascend s (forms i p s hs)) (vers_ascend t (forms j q t ht))
      (ver_kept i j p q to from s t hs ht id) (ver_kept j i q p from to t s ht hs (sym id))) in
      let changes : s.changes ≡ t.changes = changes_same i j p q to from s t hs ht id in
      let holds : s.holds ≡ t.holds = has_all (λ (x : Sysmod). x.holds ≡ []) i.global.sysmods s p.global.none_carried hs
      ∙ sym (has_all (λ (x : Sysmod). x.holds ≡ []) j.global.sysmods t q.global.none_carried ht) in
      ap (λ x. record s { id = x }) id
      ∙ ap (λ x. record s { id = t.id; kind = x }) kind
      ∙ ap (λ x. record s { id = t.id; kind = t.kind; sources = x }) sources
      ∙ ap (λ x. record t { vers = x; changes = s.changes; holds = s.holds }) vers
      ∙ ap (λ x. record t { changes = x; holds = s.holds }) changes
      ∙ ap (λ x. record t { holds = x }) holds

  sysmod_kept : (s : Sysmod) → Has i.global.sysmods s → Has j.global.sysmods s
  sysmod_kept s hs =
      let it = to.sysmods s hs in
      subst (Has j.global.sysmods) (sym (sysmod_found s it.0 hs it.1 it.2 it.3)) it.1

  hold_kept : (h : Hold) → Has i.global.holds h → Has j.global.holds h
  hold_kept h there =
      let it = unmapped hold_row j.global.holds _ (to.holds (hold_row h) (mapped hold_row i.global.holds h there)) in
      subst (Has j.global.holds) (sym (hold_is h it.0 it.2)) it.1

-- of zones with one name in the two inventories, what the first has the second has
module _ (i j : Inventory) (p : IsInventory i) (q : IsInventory j) (to : IsWithin i j) (y z : NamedZone)
    (hy : Has i.zones y) (hz : Has j.zones z) (same : y.name ≡ z.name) where
  own_zone : (u : NamedZone) → Has j.zones u → y.name ≡ u.name → u ≡ z
  own_zone u hu e = one_of_key (λ (x : NamedZone). x.name) j.zones u z (zones_rise j q) hu hz (sym e ∙ same)

  own_entry : (a b : Entry) → Has z.zone.entries a → Has z.zone.entries b → a.id ≡ b.id → a ≡ b
  own_entry a b ha hb e =
      let rise = ascending _ _ (has_all IsZoneNamed j.zones z q.zones hz).zone.entries in
      one_of_key (λ (x : Entry). x.id) z.zone.entries a b rise ha hb e

  -- a number other than 1 is kept
  number_in : (a b : Entry) → Has y.zone.entries a → Has z.zone.entries b → a.id ≡ b.id → number_of a.applied ≢ 1
      → number_of a.applied ≡ number_of b.applied
  number_in a b ha hb e other =
      let row = chosen_row y.name a.id (number_of a.applied) in
      let found = flat_had chosen_of j.zones row (to.chosens row
      (flat_has chosen_of i.zones y row hy (flat_has (chosen_in y.name) y.zone.entries a row ha
      (chosen_there y.name a other)))) in
      let u = found.0 in
      let inner = flat_had (chosen_in u.name) u.zone.entries row found.2 in
      let c = inner.0 in
      let told : row ≡ chosen_row u.name c.id (number_of c.applied) = chosen_had u.name c row inner.2 in
      let is : u ≡ z = own_zone u found.1 cc in
      let id : c.id ≡ b.id = sym (let one : a.id ≡ c.id = cc in one) ∙ e in
      let one : c ≡ b = own_entry c b (subst (λ (x : NamedZone). Has x.zone.entries c) is inner.1) hb id in
      let number : number_of a.applied ≡ number_of c.applied = cc in
      number ∙ ap (λ (x : Entry). number_of x.applied) one

  element_found : (a b : Element) (u : NamedZone) → Has y.zone.elements a → Has j.zones u → Has u.zone.elements b
      → zelem_row y.name a ≡ zelem_row u.name b → Has z.zone.elements a
  element_found a b u ha hu hb e =
      let is : u ≡ z = own_zone u hu cc in
      let f = has_all HasElementForms y.zone.elements a (has_all IsZoneNamed i.zones y p.zones hy).forms.elements ha in
      let g = has_all HasElementForms u.zone.elements b (has_all IsZoneNamed j.zones u q.zones hu).forms.elements hb in
      let equal : a ≡ b = element_is y.name u.name a b f g e in
      subst (λ (x : NamedZone). Has x.zone.elements a) is (subst (Has u.zone.elements) (sym equal) hb)

  element_in : (a : Element) → Has y.zone.elements a → Has z.zone.elements a
  element_in a ha =
      let found = flat_had zelems_of j.zones _ (to.zelems (zelem_row y.name a)
      (flat_has zelems_of i.zones y _ hy (mapped (zelem_row y.name) y.zone.elements a ha))) in
      let it = unmapped (zelem_row found.0.name) found.0.zone.elements (zelem_row y.name a) found.2 in
      element_found a it.0 found.0 ha found.1 it.1 it.2

-- the same both ways
module _ (i j : Inventory) (p : IsInventory i) (q : IsInventory j) (to : IsWithin i j) (from : IsWithin j i)
    (y z : NamedZone) (hy : Has i.zones y) (hz : Has j.zones z) (same : y.name ≡ z.name) where
  number_kept : (a b : Entry) → Has y.zone.entries a → Has z.zone.entries b → a.id ≡ b.id
      → number_of a.applied ≡ number_of b.applied
  number_kept a b ha hb e = by (one_or_other (number_of a.applied)) (one_or_other (number_of b.applied))
    where
      by : (number_of a.applied ≡ 1) ⊎ (number_of a.applied ≢ 1) → (number_of b.applied ≡ 1) ⊎ (number_of b.applied ≢ 1)
          → number_of a.applied ≡ number_of b.applied
      by (inr other) which = number_in i j p q to y z hy hz same a b ha hb e other
      by (inl one) (inr other) = sym (number_in j i q p from z y hz hy (sym same) b a hb ha (sym e) other)
      by (inl one) (inl also) = one ∙ sym also

  entry_found : (a b : Entry) (u : NamedZone) → Has y.zone.entries a → Has j.zones u → Has u.zone.entries b
      → entry_row y.name a ≡ entry_row u.name b → Has z.zone.entries a
  entry_found a b u ha hu hb e =
      let is : u ≡ z = own_zone i j p q to y z hy hz same u hu cc in
      let there : Has z.zone.entries b = subst (λ (x : NamedZone). Has x.zone.entries b) is hb in
      let f = has_all HasEntryForms y.zone.entries a (has_all IsZoneNamed i.zones y p.zones hy).forms.entries ha in
      let g = has_all HasEntryForms u.zone.entries b (has_all IsZoneNamed j.zones u q.zones hu).forms.entries hb in
      let number = number_kept a b ha there cc in
      let equal : a ≡ b = entry_is y.name u.name a b number f.supby g.supby f.waived g.waived e in
      subst (Has z.zone.entries) (sym equal) there

  entry_in : (a : Entry) → Has y.zone.entries a → Has z.zone.entries a
  entry_in a ha =
      let found = flat_had entries_of j.zones _ (to.entries (entry_row y.name a)
      (flat_has entries_of i.zones y _ hy (mapped (entry_row y.name) y.zone.entries a ha))) in
      let it = unmapped (entry_row found.0.name) found.0.zone.entries (entry_row y.name a) found.2 in
      entry_found a it.0 found.0 ha found.1 it.1 it.2

module _ (i j : Inventory) (p : IsInventory i) (q : IsInventory j) (to : IsWithin i j) (from : IsWithin j i) where
  zone_found : (y z : NamedZone) → Has i.zones y → Has j.zones z → zone_row y ≡ zone_row z → y ≡ z
  zone_found y z hy hz e =
      let a = has_all IsZoneNamed i.zones y p.zones hy in
      let b = has_all IsZoneNamed j.zones z q.zones hz in
      let name : y.name ≡ z.name = cc in
      let kind : y.zone.kind ≡ z.zone.kind = zone_same y.zone.kind z.zone.kind cc in
      let srel : y.zone.srel ≡ z.zone.srel = cc in
      let related : y.zone.related ≡ z.zone.related = or_null_same y.zone.related z.zone.related cc in
      let entries : y.zone.entries ≡ z.zone.entries =
      same_sorted (IsBelow (λ (x : Entry). x.id)) (below_once (λ (x : Entry). x.id)) _ _ (ascending _ _ a.zone.entries)
      (ascending _ _ b.zone.entries)
      (entry_in i j p q to from y z hy hz name) (entry_in j i q p from to z y hz hy (sym name)) in
      let elements : y.zone.elements ≡ z.zone.elements =
      same_sorted (λ x w. IsTrue (is_lt (element_cmp (element_key x) (element_key w)))) element_once _ _
      (ascending _ _ a.zone.elements) (ascending _ _ b.zone.elements)
      (element_in i j p q to y z hy hz name) (element_in j i q p from z y hz hy (sym name)) in
      let v = y.zone in
      let w = z.zone in
      let zone : v ≡ w =
      ap (λ x. record v { kind = x }) kind
      ∙ ap (λ x. record v { kind = w.kind; srel = x }) srel
      ∙ ap (λ x. record v { kind = w.kind; srel = w.srel; related = x }) related
      ∙ ap (λ x. record w { entries = x; elements = v.elements }) entries
      ∙ ap (λ x. record w { elements = x }) elements in
      ap₂ (λ (n : Text) (x : Zone). record { name = n; zone = x }) name zone

  zone_kept : (y : NamedZone) → Has i.zones y → Has j.zones y
  zone_kept y hy =
      let it = unmapped zone_row j.zones _ (to.zones (zone_row y) (mapped zone_row i.zones y hy)) in
      subst (Has j.zones) (sym (zone_found y it.0 hy it.1 it.2)) it.1

one_inventory : (i j : Inventory) → IsInventory i → IsInventory j → IsWithin i j → IsWithin j i → i ≡ j
one_inventory i j p q to from =
    let sysmods : i.global.sysmods ≡ j.global.sysmods =
    same_sorted (IsBelow (λ (s : Sysmod). s.id)) (below_once (λ (s : Sysmod). s.id)) _ _ (sysmods_rise i p)
    (sysmods_rise j q) (sysmod_kept i j p q to from) (sysmod_kept j i q p from to) in
    let holds : i.global.holds ≡ j.global.holds =
    same_sorted (λ a b. IsTrue (is_lt (hold_cmp a b))) hold_once _ _ (ascending _ _ p.global.holds)
    (ascending _ _ q.global.holds) (hold_kept i j p q to from) (hold_kept j i q p from to) in
    let zones : i.zones ≡ j.zones =
    same_sorted (IsBelow (λ (z : NamedZone). z.name)) (below_once (λ (z : NamedZone). z.name)) _ _ (zones_rise i p)
    (zones_rise j q) (zone_kept i j p q to from) (zone_kept j i q p from to) in
    ap (λ x. record i { global = record { sysmods = x; holds = i.global.holds } }) sysmods
    ∙ ap (λ x. record i { global = record { sysmods = j.global.sysmods; holds = x } }) holds
    ∙ ap (λ x. record j { zones = x }) zones

-- ---- the tables of a database

-- each row of these tables by one account is one by the other
abbrev AreAmong : List Table → Contents → Contents → Type 0
AreAmong tables c d = AllByRecursion (λ t. (r : Row) → Has (c t.tree) r → Has (d t.tree) r) tables

among : (tables : List Table) (c d : Contents) (db : Trees)
    → AllByRecursion (λ t. AreRows t (c t.tree) (db t.tree)) tables
    → AllByRecursion (λ t. AreRows t (d t.tree) (db t.tree)) tables → AreAmong tables c d
among [] c d db p q = tt
among (t ∷ ts) c d db p q = (
  λ r h. has_permuted _ _ r (IsPermutation-sym _ _ q.0.same) (has_permuted _ _ r p.0.same h),
  among ts c d db p.1 q.1,
)

front : (c d : Contents) (xs ys : List Table) → AreAmong (xs ++ ys) c d → AreAmong xs c d
front c d [] ys h = tt
front c d (x ∷ xs) ys h = (h.0, front c d xs ys h.1)

back : (c d : Contents) (xs ys : List Table) → AreAmong (xs ++ ys) c d → AreAmong ys c d
back c d [] ys h = h
back c d (x ∷ xs) ys h = back c d xs ys h.1

-- what all schemas hold alike
abbrev shared_tables : List Table
shared_tables = ver ∷ ifreq ∷ hold ∷ elem ∷ zone ∷ entry ∷ zelem ∷ []

module _ (i j : Inventory) (p : IsInventory i) (q : IsInventory j)
    (shared : AreAmong shared_tables (rows_of i) (rows_of j))
    (more : AreAmong (morever ∷ moreif ∷ chosen ∷ []) (rows_of i) (rows_of j)) where
  abbrev SysmodKept : Sysmod → Type 0
  SysmodKept s = (t : Sysmod) × Has j.global.sysmods t × (s.id ≡ t.id) × (s.kind ≡ t.kind)

  abbrev SourcesKept : Sysmod → Sysmod → Type 0
  SourcesKept s t = (name : Text) → Has s.sources name → Has t.sources name

  kept : ((s : Sysmod) → Has i.global.sysmods s → SysmodKept s)
      → ((s t : Sysmod) → Has i.global.sysmods s → Has j.global.sysmods t → s.id ≡ t.id → SourcesKept s t)
      → IsWithin i j
  kept sysmods sources = record {
    sysmods = sysmods;
    sources = sources;
    vers = shared.0;
    ifreqs = shared.1.0;
    holds = shared.1.1.0;
    elems = shared.1.1.1.0;
    zones = shared.1.1.1.1.0;
    entries = shared.1.1.1.1.1.0;
    zelems = shared.1.1.1.1.1.1.0;
    morevers = more.0;
    moreifs = more.1.0;
    chosens = more.1.1.0;
  }

  -- the sources in a table of their own
  within : ((r : Row) → Has (map sysmod_row i.global.sysmods) r → Has (map sysmod_row j.global.sysmods) r)
      → ((r : Row) → Has (flat_map sources_of i.global.sysmods) r → Has (flat_map sources_of j.global.sysmods) r)
      → IsWithin i j
  within sysmods sources = kept (λ s hs.
      let there = sysmods (sysmod_row s) (mapped sysmod_row i.global.sysmods s hs) in
      let it = unmapped sysmod_row j.global.sysmods _ there in (it.0, it.1, cc, kind_same s.kind it.0.kind cc))
      (λ s t hs ht same name hn.
      let found = flat_had sources_of j.global.sysmods _ (sources (source_row s.id name)
      (flat_has sources_of i.global.sysmods s _ hs (mapped (source_row s.id) s.sources name hn))) in
      let it = unmapped (source_row found.0.id) found.0.sources (source_row s.id name) found.2 in
      let is : found.0 ≡ t = own j q s t ht same found.0 found.1 cc in
      let equal : it.0 ≡ name = cc in
      subst (λ (x : Sysmod). Has x.sources name) is (subst (Has found.0.sources) equal it.1))

  -- the sources in the row of the SYSMOD
  within_first :
      ((r : Row) → Has (map first_sysmod_row i.global.sysmods) r → Has (map first_sysmod_row j.global.sysmods) r)
      → IsWithin i j
  within_first sysmods = kept (λ s hs. let it = found s hs in (it.0, it.1, cc, kind_same s.kind it.0.kind cc))
      (λ s t hs ht same name hn.
      let it = found s hs in
      let is : it.0 ≡ t = own j q s t ht same it.0 it.1 cc in
      let equal : s.sources ≡ it.0.sources = ids_same s.sources it.0.sources
      (sources_are_words _ (forms i p s hs).sources) (sources_are_words _ (forms j q it.0 it.1).sources) cc in
      subst (λ (x : Sysmod). Has x.sources name) is (subst (λ l. Has l name) equal hn))
    where
      found : (s : Sysmod) → Has i.global.sysmods s
          → (t : Sysmod) × Has j.global.sysmods t × (first_sysmod_row s ≡ first_sysmod_row t)
      found s hs = unmapped first_sysmod_row j.global.sysmods _
          (sysmods (first_sysmod_row s) (mapped first_sysmod_row i.global.sysmods s hs))

-- ---- one state

same_third : (db : Database) (i j : Inventory) → StandsFor i db → StandsFor j db → IsWithin i j
same_third db i j p q =
    let all = among all_tables (rows_of i) (rows_of j) db.trees p.tables.tables q.tables.tables in
    let more = source ∷ morever ∷ moreif ∷ chosen ∷ [] in
    let behind = back (rows_of i) (rows_of j) shared_tables more all.1.1 in
    within i j p.inventory q.inventory (front (rows_of i) (rows_of j) shared_tables more all.1.1) behind.1 all.1.0
    behind.0

-- Under earlier schemas there is nothing in the tables that these lack.
none_more : (i j : Inventory) → IsInventory i → IsInventory j → IsOfEarlier i
    → AreAmong (morever ∷ moreif ∷ chosen ∷ []) (rows_of i) (rows_of j)
none_more i j p q earlier = (
  λ r h. absurd (subst (λ l. Has l r) (no_morevers i earlier) h),
  (
    λ r h. absurd (subst (λ l. Has l r) (no_moreifs i earlier) h),
    (λ r h. absurd (subst (λ l. Has l r) (no_chosen i earlier) h), tt),
  ),
)

same_second : (db : Database) (i j : Inventory) → StandsForSecond i db → StandsForSecond j db → IsWithin i j
same_second db i j p q =
    let c = second_rows_of i in
    let d = second_rows_of j in
    let all = among second_tables c d db.trees p.tables.tables q.tables.tables in
    within i j p.inventory q.inventory (front c d shared_tables (source ∷ []) all.1.1)
    (none_more i j p.inventory q.inventory p.earlier) all.1.0 (back c d shared_tables (source ∷ []) all.1.1).0

same_first : (db : Database) (i j : Inventory) → StandsForFirst i db → StandsForFirst j db → IsWithin i j
same_first db i j p q =
    let all = among first_tables (first_rows_of i) (first_rows_of j) db.trees p.tables.tables q.tables.tables in
    within_first i j p.inventory q.inventory all.1.1 (none_more i j p.inventory q.inventory p.earlier) all.1.0

one_under : (r : Schema) (db : Database) (i j : Inventory) → StandsUnder r i db → StandsUnder r j db → i ≡ j
one_under First db i j p q =
    one_inventory i j p.inventory q.inventory (same_first db i j p q) (same_first db j i q p)
one_under Second db i j p q =
    one_inventory i j p.inventory q.inventory (same_second db i j p q) (same_second db j i q p)
one_under Third db i j p q =
    one_inventory i j p.inventory q.inventory (same_third db i j p q) (same_third db j i q p)

-- ---- one schema

pub schema_is_under : (r : Schema) (db : Database) (i : Inventory) → StandsUnder r i db → db.schema ≡ schema_under r
schema_is_under First db i p = p.tables.schema_is
schema_is_under Second db i p = p.tables.schema_is
schema_is_under Third db i p = p.tables.schema_is

-- the schemas differ in how many tables there are
pub one_schema : (r s : Schema) → schema_under r ≡ schema_under s → r ≡ s
one_schema First First e = refl
one_schema Second Second e = refl
one_schema Third Third e = refl
one_schema First Second e = absurd (omega (arith, ap (λ (x : SqliteSchema). length x.tables) e))
one_schema First Third e = absurd (omega (arith, ap (λ (x : SqliteSchema). length x.tables) e))
one_schema Second First e = absurd (omega (arith, ap (λ (x : SqliteSchema). length x.tables) e))
one_schema Second Third e = absurd (omega (arith, ap (λ (x : SqliteSchema). length x.tables) e))
one_schema Third First e = absurd (omega (arith, ap (λ (x : SqliteSchema). length x.tables) e))
one_schema Third Second e = absurd (omega (arith, ap (λ (x : SqliteSchema). length x.tables) e))

not_blank : (r : Schema) (db : Database) → db.schema ≡ schema_under r → ¬ IsBlank db
not_blank First db is blank = absurd (omega (arith, ap (λ (x : SqliteSchema). length x.tables) (sym blank ∙ is)))
not_blank Second db is blank = absurd (omega (arith, ap (λ (x : SqliteSchema). length x.tables) (sym blank ∙ is)))
not_blank Third db is blank = absurd (omega (arith, ap (λ (x : SqliteSchema). length x.tables) (sym blank ∙ is)))

-- no tables and views, or the tables of a schema
abbrev pub StandsSomehow : Inventory → Database → Type 0
StandsSomehow i db = (IsBlank db × (i ≡ empty_inventory)) ⊎ ((r : Schema) × StandsUnder r i db)

pub schema_by_state : (db : Database) (i : Inventory) → IsEarlierStateOf i db → StandsSomehow i db
schema_by_state db i (inl (inl blank)) = inl blank
schema_by_state db i (inl (inr stands)) = inr (Third, stands)
schema_by_state db i (inr (inl stands)) = inr (First, stands)
schema_by_state db i (inr (inr stands)) = inr (Second, stands)

-- what the tables of a schema stand for, they stand for under it
pub stands_under : (r : Schema) (db : Database) (i : Inventory) → db.schema ≡ schema_under r → IsEarlierStateOf i db
    → StandsUnder r i db
stands_under r db i has state = by (schema_by_state db i state)
  where
    by : StandsSomehow i db → StandsUnder r i db
    by (inl blank) = absurd (not_blank r db has blank.0)
    by (inr it) =
        let same = one_schema it.0 r (sym (schema_is_under it.0 db i it.1) ∙ has) in
        subst (λ r. StandsUnder r i db) same it.1

one_known : (db : Database) (i j : Inventory) → StandsSomehow i db → StandsSomehow j db → i ≡ j
one_known db i j (inl p) (inl q) = p.1 ∙ sym q.1
one_known db i j (inl p) (inr q) = absurd (not_blank q.0 db (schema_is_under q.0 db j q.1) p.0)
one_known db i j (inr p) (inl q) = absurd (not_blank p.0 db (schema_is_under p.0 db i p.1) q.0)
one_known db i j (inr p) (inr q) =
    let same = one_schema p.0 q.0 (sym (schema_is_under p.0 db i p.1) ∙ schema_is_under q.0 db j q.1) in
    one_under q.0 db i j (subst (λ r. StandsUnder r i db) same p.1) q.1

pub one_earlier_state : HasOneEarlierState
one_earlier_state db i j p q = one_known db i j (schema_by_state db i p) (schema_by_state db j q)

pub one_state : HasOneState
one_state db i j p q = one_earlier_state db i j (inl p) (inl q)
