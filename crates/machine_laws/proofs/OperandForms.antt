-- What received SYSMODs name in their ++VERs and change by their element statements has its forms.
use Rattle.std.proofs.Common.{◌≡◌, ◌≢◌, inl, inr, Bool, true, false, List, [], Option, Some, None, All, Contains}
use Rattle.std.proofs.Common.{IfSome, refl, subst, find, filter}
use Rattle.std.specs.Prelude.{◌++◌, ◌&&◌, ◌||◌, ◌==◌, unwrap_or, if◌then◌else◌}
use Rattle.std.specs.Option.{option_map_or, option_and_then}
use Rattle.std.specs.Str.{bytes_eq}
use Rattle.std.proofs.lemmas.Bool.{and_parts, eqb-true}
use Rattle.std.proofs.lemmas.List.Elements.{All-contains, Contains-append_cases}
use Rattle.terms.proofs.ListMembers.{none_in, filter_in}
use Rattle.terms.proofs.Places.{contains_at}
use Rattle.terms.proofs.Searches.{All_find, find_gives}
use Rattle.terms.proofs.TextOrder.{same_from}
use Rattle.terms.specs.declared.kinds.Kind.{Kind}
use Rattle.terms.specs.declared.kinds.ElemType.{ElemType}
use Rattle.terms.specs.Types.{Text, Id, IfReq, Ver, Change, Sysmod, Global, Zone, type_number, is_function_kind}
use Rattle.terms.specs.Lookups.{sysmod_of, is_function, change_of, is_in, is_applied, applied_ids}
use Rattle.terms.specs.Choice.{Choice, vers_of, place, counting, fmid_of, pre_of, req_of, sup_of}
use Rattle.terms.specs.Choice.{del_of, ifs_of}
use Rattle.terms.specs.Over.{Supersedes, owner}
use Rattle.terms.specs.Conditions.{if_reqs, stated_for, if_needed}
use Rattle.terms.specs.Tests.{Setting, view_of}
use Rattle.terms.specs.Needs.{bypassed_ids}
use Rattle.terms.specs.Forms.{IsId}
use Rattle.terms.proofs.ElementOrder.{type_from_number}
use Rattle.terms.proofs.Leads.{last_step}
use Rattle.store_schema.specs.Forms.{HasIfForms, HasVerForms, HasChangeForms, HasSysmodForms}
use Rattle.terms.proofs.ListMembers.{flat_in}

-- one of two lists, by a test
either_in : {X : Type 0} (b : Bool) (xs : List X) (x : X) → Contains (if b then xs else []) x → Contains xs x
either_in true xs x there = there
either_in false xs x there = absurd (none_in x there)

-- The received SYSMODs have their forms.
module _ (g : Global) (sysmods : All HasSysmodForms g.sysmods) where
  pub sysmod_forms : (x : Id) (s : Sysmod) → sysmod_of g x ≡ Some s → (s.id ≡ x) × HasSysmodForms s
  sysmod_forms x s found = (
    same_from s.id x (find_gives (λ s. bytes_eq s.id x) g.sysmods s found).0,
    All_find HasSysmodForms (λ s. bytes_eq s.id x) g.sysmods s sysmods found,
  )

  pub function_form : (x : Id) → is_function g x ≡ true → IsId x
  function_form x = by (sysmod_of g x) refl
    where
      by : (s : Option Sysmod) → sysmod_of g x ≡ s → option_map_or (λ s. is_function_kind s.kind) s false ≡ true
          → IsId x
      by None found is = absurd (cc is)
      by (Some s) found is = let has = sysmod_forms x s found in subst IsId has.0 has.1.id

  -- what it does to an element, of that type and name
  pub change_forms : (x : Id) (type : ElemType) (name : Text) (h : Change) → change_of g x type name ≡ Some h
      → (h.elem_type ≡ type) × (h.name ≡ name) × ((kind : Kind) × HasChangeForms kind h)
  change_forms x type name h = by (sysmod_of g x) refl
    where
      test : Change → Bool
      test h = (type_number h.elem_type == type_number type) && bytes_eq h.name name

      by : (s : Option Sysmod) → sysmod_of g x ≡ s → find test (option_map_or (λ s. s.changes) s []) ≡ Some h
          → (h.elem_type ≡ type) × (h.name ≡ name) × ((kind : Kind) × HasChangeForms kind h)
      by None found at = absurd (cc at)
      by (Some s) found at =
          let passes = find_gives test s.changes h at in
          let parts = and_parts (type_number h.elem_type == type_number type) (bytes_eq h.name name) passes.0 in (
            type_from_number h.elem_type type (eqb-true _ _ parts.0),
            same_from h.name name parts.1,
            (s.kind, All_find (HasChangeForms s.kind) test s.changes h (sysmod_forms x s found).1.changes at),
          )

  -- the ++VER that counts, as it is one of those for the zone's SREL
  pub ver_forms : (zone : Zone) (cands : List Id) (x : Id) (v : Ver) → counting g zone cands x ≡ Some v
      → (kind : Kind) × HasVerForms kind x v
  ver_forms zone cands x v at =
      by (sysmod_of g x) refl (contains_at (vers_of g zone.srel x) (place g zone cands x) v at)
    where
      by : (s : Option Sysmod) → sysmod_of g x ≡ s
          → Contains (option_map_or (λ s. filter (λ v. bytes_eq v.srel zone.srel) s.vers) s []) v
          → (kind : Kind) × HasVerForms kind x v
      by None found there = absurd (none_in v there)
      by (Some s) found there =
          let has = sysmod_forms x s found in
          let among = (filter_in (λ v. bytes_eq v.srel zone.srel) s.vers v there).0 in (
            s.kind,
            subst (λ y. HasVerForms s.kind y v) has.0
                (All-contains (HasVerForms s.kind s.id) s.vers v has.1.vers among),
          )

-- The ++VERs that count have their forms.
abbrev pub HasVers : Choice → Type 0
HasVers c = (x : Id) (v : Ver) → c x ≡ Some v → (kind : Kind) × HasVerForms kind x v

module _ (c : Choice) (vers : HasVers c) where
  -- an id of a list of a ++VER
  in_ver : (list : Ver → List Id)
      → ((kind : Kind) (x : Id) (v : Ver) → HasVerForms kind x v → All IsId (list v)) → (x z : Id)
      → Contains (option_map_or list (c x) []) z → IsId z
  in_ver list each x z = by (c x) refl
    where
      by : (v : Option Ver) → c x ≡ v → Contains (option_map_or list v []) z → IsId z
      by None at there = absurd (none_in z there)
      by (Some v) at there = let has = vers x v at in All-contains IsId (list v) z (each has.0 x v has.1) there

  pub pre_form : (x z : Id) → Contains (pre_of c x) z → IsId z
  pre_form = in_ver (λ v. v.pre) (λ kind x v has. has.pre.listed.each)

  pub req_form : (x z : Id) → Contains (req_of c x) z → IsId z
  req_form = in_ver (λ v. v.req) (λ kind x v has. has.req.listed.each)

  pub sup_form : (x z : Id) → Contains (sup_of c x) z → IsId z
  sup_form = in_ver (λ v. v.sup) (λ kind x v has. has.sup.listed.each)

  pub del_form : (x z : Id) → Contains (del_of c x) z → IsId z
  del_form = in_ver (λ v. v.del) (λ kind x v has. has.del.listed.each)

  pub superseded_form : (x z : Id) → Supersedes c x z → IsId z
  superseded_form x z supersedes = elim (last_step (sup_of c) x z supersedes) [
    | inl named ↦ sup_form x z named
    | inr last ↦ sup_form last.0 z last.2
  ]

  -- the owner of what an id of this form changes
  pub owner_form : (g : Global) (x : Id) → IsId x → IsId (owner g c x)
  owner_form g x id = by (is_function g x)
    where
      of_fmid : (v : Option Ver) → c x ≡ v → IsId (unwrap_or (option_and_then (λ v. v.fmid) v) x)
      of_fmid None at = id
      of_fmid (Some v) at = named v.fmid (vers x v at).1.fmid
        where
          named : (f : Option Id) → IfSome f (λ f. IsId f × (f ≢ x)) → IsId (unwrap_or f x)
          named None has = id
          named (Some f) has = has.0

      by : (b : Bool) → IsId (if b then x else unwrap_or (fmid_of c x) x)
      by true = id
      by false = of_fmid (c x) refl

  -- ---- requisites

  if_forms : (x : Id) (i : IfReq) → Contains (ifs_of c x) i → HasIfForms x i
  if_forms x i = by (c x) refl
    where
      by : (v : Option Ver) → c x ≡ v → Contains (option_map_or (λ v. v.ifs) v []) i → HasIfForms x i
      by None at there = absurd (none_in i there)
      by (Some v) at there = All-contains (HasIfForms x) v.ifs i (vers x v at).1.ifs there

  if_reqs_form : (is_there : Id → Bool) (x z : Id) → Contains (if_reqs c is_there x) z → IsId z
  if_reqs_form is_there x z there =
      let from = flat_in (λ i. i.req) (filter (λ i. is_there i.function) (ifs_of c x)) z there in
      let stated = filter_in (λ i. is_there i.function) (ifs_of c x) from.0 from.1 in
      All-contains IsId from.0.req z (if_forms x from.0 stated.0).req.listed.each from.2

  stated_for_form : (xs : List Id) (function z : Id) → Contains (stated_for c xs function) z → IsId z
  stated_for_form xs function z there =
      let from = flat_in (if_reqs c (bytes_eq function)) xs z there in
      if_reqs_form (bytes_eq function) from.0 z from.2

  if_needed_form : (g : Global) (zone : Zone) (cands : Id → Bool) (x z : Id)
      → Contains (if_needed g c zone cands x) z → IsId z
  if_needed_form g zone cands x z there =
      elim (Contains-append_cases (if_reqs c (λ f. is_applied zone f || cands f) x)
      (if is_function g x then stated_for c (applied_ids zone) x else []) z there) [
        | inl own ↦ if_reqs_form (λ f. is_applied zone f || cands f) x z own
        | inr stated ↦ stated_for_form (applied_ids zone) x z
            (either_in (is_function g x) (stated_for c (applied_ids zone) x) z stated)
      ]

-- what BYPASS leaves out
pub bypassed_form : (s : Setting) → HasVers s.choice → (x z : Id) → Contains (bypassed_ids s x) z → IsId z
bypassed_form s vers x z there =
    let ifreq_ids = if_needed s.global s.choice (view_of s x) (is_in s.cands) x in
    let pre : List Id = if s.bypass.pre then pre_of s.choice x else [] in
    let req : List Id = if s.bypass.req then req_of s.choice x else [] in
    elim (Contains-append_cases (pre ++ req) (if s.bypass.ifreq then ifreq_ids else []) z there) [
      | inl own ↦ elim (Contains-append_cases pre req z own) [
        | inl first ↦ pre_form s.choice vers x z (either_in s.bypass.pre (pre_of s.choice x) z first)
        | inr second ↦ req_form s.choice vers x z (either_in s.bypass.req (req_of s.choice x) z second)
      ]
      | inr third ↦ if_needed_form s.choice vers s.global (view_of s x) (is_in s.cands) x z
          (either_in s.bypass.ifreq ifreq_ids z third)
    ]
