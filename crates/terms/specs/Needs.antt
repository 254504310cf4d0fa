-- What a candidate of APPLY or ACCEPT needs, and which candidates serve the need. (IBM z/OS SMP/E Reference, FMID, PRE
-- and REQ of ++VER, ++IF, ++HOLD; Commands, BYPASS. ORPHAN is this project's.)
use Rattle.std.specs.Prelude.{◌≡◌, ◌⊎◌, ◌&&◌, Bool, true, false, not, List, [], ◌++◌, filter, map, IsTrue, IsFalse}
use Rattle.std.specs.Prelude.{Contains, if◌then◌else◌}
use Rattle.std.specs.List.{list_any, flat_map}
use Rattle.terms.specs.declared.kinds.HoldKind.TheVariants.{Error}
use Rattle.terms.specs.declared.codes.NeedKind.{NeedKind}
use Rattle.terms.specs.declared.codes.NeedKind.TheVariants.{Fmid, Pre, Req, Ifreq, HoldError, Orphan, Elem, Dep}
use Rattle.terms.specs.Types.{Id, Zone, Bypass}
use Rattle.terms.specs.Lookups.{at_most_one, is_in, is_applied, is_supplied, supplies, applied_ids, waived_of}
use Rattle.terms.specs.Choice.{Choice, fmid_of, pre_of, req_of, ifs_of, del_of}
use Rattle.terms.specs.Over.{Supersedes}
use Rattle.terms.specs.Deleted.{deletions, is_taken_out, zone_less}
use Rattle.terms.specs.Conditions.{if_needed}
use Rattle.terms.specs.Tests.{Setting, view_of, standing_holds}

-- the ids of the list that this SYSMOD does not waive
abbrev pub unwaived : Zone → Id → List Id → List Id
unwaived zone w ids = filter (λ z. not (is_in (waived_of zone w) z)) ids

-- the requisites by ++IF of w whose function is applied, less those that the function waives
abbrev pub binding_ifs : Choice → Zone → (Id → Bool) → Id → List Id
binding_ifs c zone is_there w =
    flat_map (λ i. unwaived zone i.function i.req) (filter (λ i. is_there i.function) (ifs_of c w))

-- the requisites that bind w: PRE, REQ and those by ++IF, less what it waives
abbrev pub binding_ids : Choice → Zone → (Id → Bool) → Id → List Id
binding_ids c zone is_there w = unwaived zone w (pre_of c w ++ req_of c w ++ binding_ifs c zone is_there w)

-- whether an applied SYSMOD that these deletions take out supplies the id
abbrev pub is_lost : Setting → List Id → Id → Bool
is_lost s dels z =
    list_any (λ p. is_taken_out s.global s.choice dels s.zone p && supplies s.zone p z) (applied_ids s.zone)

-- ORPHAN: the requisites of SYSMODs that stay applied, if x's own DELETE takes out the SYSMODs that supply them
unfoldable pub orphans : Setting → Id → List Id
orphans s x =
    let dels : List Id = del_of s.choice x in
    let staying : Zone = zone_less s.global s.choice dels s.zone in
    filter (is_lost s dels) (flat_map (binding_ids s.choice s.zone (is_applied staying)) (applied_ids staying))

-- All that x asks for, supplied or not and bypassed or not. The reasons of ERROR holds are left out if the hold is
-- bypassed.
abbrev pub asked : Setting → List Id → Id → NeedKind → List Id
asked s survivors x Fmid = at_most_one (fmid_of s.choice x)
asked s survivors x Pre = pre_of s.choice x
asked s survivors x Req = req_of s.choice x
asked s survivors x Ifreq = if_needed s.global s.choice (view_of s x) (is_in s.cands) x
asked s survivors x HoldError = map (λ h. h.reason) (standing_holds s Error x)
asked s survivors x Orphan = if is_in survivors x then orphans s x else []
asked s survivors x _ = []

-- BYPASS(PRE), BYPASS(REQ) and BYPASS(IFREQ)
abbrev pub is_bypassed : Bypass → NeedKind → Bool
is_bypassed b Pre = b.pre
is_bypassed b Req = b.req
is_bypassed b Ifreq = b.ifreq
is_bypassed b _ = false

-- whether the zone meets a need of APPLY or ACCEPT; only an applied SYSMOD meets one for an FMID
abbrev pub is_met : Zone → NeedKind → Id → Bool
is_met zone Fmid z = is_applied zone z
is_met zone _ z = is_supplied zone z

-- the zone less all deletions of the survivors
abbrev pub zone_left : Setting → List Id → Zone
zone_left s survivors = zone_less s.global s.choice (deletions s.choice survivors) s.zone

-- x needs z: it asks for z, and neither BYPASS nor the zone less all deletions meets that
pub record Needs (s : Setting) (survivors : List Id) (x : Id) (kind : NeedKind) (z : Id) : Type 0 where
  pub of : Contains s.cands x
  pub asks : Contains (asked s survivors x kind) z
  pub not_bypassed : IsFalse (is_bypassed s.bypass kind)
  pub not_met : IsFalse (is_met (zone_left s survivors) kind z)

-- whether a SYSMOD that supersedes an id serves a need for it: not if it is an FMID, and not in RESTORE
abbrev pub takes_superseder : NeedKind → Bool
takes_superseder Fmid = false
takes_superseder Elem = false
takes_superseder Dep = false
takes_superseder _ = true

-- y serves a need for z: y is z, or supersedes it if that serves the need
abbrev pub Serves : Choice → NeedKind → Id → Id → Type 0
Serves c kind y z = (y ≡ z) ⊎ (IsTrue (takes_superseder kind) × Supersedes c y z)

-- the bypassed PRE, REQ and IFREQ ids of x
abbrev pub bypassed_ids : Setting → Id → List Id
bypassed_ids s x =
    (if s.bypass.pre then pre_of s.choice x else [])
    ++ (if s.bypass.req then req_of s.choice x else [])
    ++ (if s.bypass.ifreq then asked s [] x Ifreq else [])
