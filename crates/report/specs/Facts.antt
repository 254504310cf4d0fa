-- The facts about one id in a zone, on which an APPLY, ACCEPT or RESTORE of it would rest. The tests and needs are
-- those of an install with given candidates, of which this id is one.
use Rattle.std.specs.Prelude.{◌≡◌, ◌≢◌, ◌↔◌, ◌+◌, ◌&&◌, ◌||◌, ◌==◌, ℕ, Bool, true, false, not, List, [], ◌∷◌, ◌++◌}
use Rattle.std.specs.Prelude.{Option, None, Some, map, filter, option_map, is_some, Contains, IsTrue, IsFalse}
use Rattle.std.specs.Prelude.{if◌then◌else◌}
use Rattle.std.specs.List.{flat_map}
use Rattle.std.specs.Option.{option_map_or}
use Rattle.std.specs.Str.{bytes_eq}
use Rattle.std.specs.Ordering.{nat_cmp}
use Rattle.std.specs.Cmp.Lexicographic.{slice_cmp}
use Rattle.terms.specs.Beside.{Beside}
use Rattle.terms.specs.declared.kinds.Kind.{Kind}
use Rattle.terms.specs.declared.kinds.HoldKind.{HoldKind}
use Rattle.terms.specs.declared.kinds.HoldKind.TheVariants.{Error, System, User}
use Rattle.terms.specs.declared.kinds.ElemType.{ElemType}
use Rattle.terms.specs.declared.kinds.ZoneKind.{ZoneKind}
use Rattle.terms.specs.declared.codes.NeedKind.{NeedKind}
use Rattle.terms.specs.declared.codes.NeedKind.TheVariants.{Fmid, Pre, Req, Ifreq, HoldError, Orphan, Dep}
use Rattle.terms.specs.Rising.{with_item}
use Rattle.terms.specs.Types.{Text, Id, Ver, IfReq, Hold, Change, Global, Entry, Element, Zone, Bypass}
use Rattle.terms.specs.Lookups.{IsRising, is_nil, at_most_one, is_in, sysmod_of, is_received, is_function, changes_of}
use Rattle.terms.specs.Lookups.{holds_of, entry_of, element_of, is_applied, supby_of, delby_of, waived_of, applied_ids}
use Rattle.terms.specs.Choice.{Choice, vers_of, fits, place, counting, npre_of, del_of, ifs_of}
use Rattle.terms.specs.Over.{IsOver, chain}
use Rattle.terms.specs.Changes.{is_replacement}
use Rattle.terms.specs.Deleted.{is_taken_out}
use Rattle.terms.specs.Candidates.{is_installable}
use Rattle.terms.specs.Tests.{Setting, view_of, owner_of, has_candidate_base}
use Rattle.terms.specs.Needs.{asked, is_met, zone_left, Serves}
use Rattle.terms.specs.CommandForms.{no_bypass}
use Rattle.terms.specs.Judged.{setting}
use Rattle.terms.specs.Restore.{NeedsInRestore}

-- these ids and x
abbrev pub with_id : List Id → Id → List Id
with_id ids x = with_item (slice_cmp nat_cmp) (λ y. y) ids x

-- what an install looks at if its candidates are these and x; no fact depends on a related zone
abbrev pub among : Global → Zone → List Id → Bypass → Id → Setting
among g zone cands bypass x = setting g zone None (with_id cands x) bypass

-- what it looks at if x is the only candidate and there is no BYPASS
abbrev pub alone : Global → Zone → Id → Setting
alone g zone x = setting g zone None (x ∷ []) no_bypass

-- The state of an id: applied (in a distribution zone accepted), superseded, deleted, received and none of these, or
-- unknown.
pub data Standing : Type 0 where
  StandsApplied : ZoneKind → Standing
  StandsSuperseded : Standing
  StandsDeleted : Standing
  StandsReceived : Standing
  StandsMissing : Standing

abbrev pub standing : Global → Zone → Id → Standing
standing g zone x =
    if is_applied zone x then StandsApplied zone.kind
    else if not (is_nil (supby_of zone x)) then StandsSuperseded
    else if is_some (delby_of zone x) then StandsDeleted
    else if is_received g x then StandsReceived
    else StandsMissing

-- Something that an id asks for: its kind, the SYSMOD that states it, the function of the ++IF that states it, and the
-- id that is asked for.
pub record Requisite : Type 0 where
  pub kind : NeedKind
  pub by : Id
  pub function : Option Id
  pub id : Id

abbrev pub a_requisite : NeedKind → Id → Option Id → Id → Requisite
a_requisite kind by function z = record { kind = kind; by = by; function = function; id = z }

-- what it asks for of one kind
abbrev pub requisites_of : Setting → Id → NeedKind → List Requisite
requisites_of s x kind = map (a_requisite kind x None) (asked s (x ∷ []) x kind)

-- what an ++IF of y states
abbrev pub stated_by : Id → IfReq → List Requisite
stated_by y i = map (a_requisite Ifreq y (Some i.function)) i.req

-- what the ++IFs of y state under these functions
abbrev pub conditions_of : Choice → (Id → Bool) → Id → List Requisite
conditions_of c is_there y = flat_map (stated_by y) (filter (λ i. is_there i.function) (ifs_of c y))

-- the applied SYSMODs of its view, except x itself
abbrev pub others_applied : Setting → Id → List Id
others_applied s x = filter (λ y. not (bytes_eq x y)) (applied_ids (view_of s x))

-- The requisites by ++IF, each with its function: those of x whose function is applied or x itself, and if x is a
-- function those that other applied SYSMODs state for it. (Their ids are what x asks for as IFREQ.)
abbrev pub conditions : Setting → Id → List Requisite
conditions s x =
    conditions_of s.choice (λ f. is_applied (view_of s x) f || is_in s.cands f) x
    ++ (if is_function s.global x then flat_map (conditions_of s.choice (bytes_eq x)) (others_applied s x) else [])

-- the ids that x asks for as ORPHAN, each once, rising
pub record AreOrphans (s : Setting) (x : Id) (ids : List Id) : Type 0 where
  pub rising : IsRising ids
  pub members : (z : Id) → Contains ids z ↔ Contains (asked s (x ∷ []) x Orphan) z

-- all that x asks for, with these as ORPHAN, except the reasons of ERROR holds
abbrev pub requisites : Setting → Id → List Id → List Requisite
requisites s x lost =
    requisites_of s x Fmid ++ requisites_of s x Pre ++ requisites_of s x Req ++ conditions s x
    ++ map (a_requisite Orphan x None) lost

-- whether requisites of the kind can be waived
abbrev pub is_waivable : NeedKind → Bool
is_waivable Pre = true
is_waivable Req = true
is_waivable Ifreq = true
is_waivable _ = false

-- whether x is applied, and the requisite is waived by the SYSMOD that states it or by the function for which it is
-- stated
abbrev pub is_waived : Zone → Id → Requisite → Bool
is_waived zone x r =
    is_applied zone x && is_waivable r.kind
    && (is_in (waived_of zone r.by) r.id || option_map_or (λ f. is_in (waived_of zone f) r.id) r.function false)

-- the SYSMODs that supply what is asked for: for an FMID only an applied one, otherwise also one that supersedes it
abbrev pub suppliers : Zone → NeedKind → Id → List Id
suppliers zone Fmid z = if is_applied zone z then z ∷ [] else []
suppliers zone _ z = (if is_applied zone z then z ∷ [] else []) ++ supby_of zone z

-- y is received, may be installed in the zone, and would serve the need
pub record MayServe (s : Setting) (kind : NeedKind) (z y : Id) : Type 0 where
  pub installable : IsTrue (is_installable s.global s.zone y)
  pub serves : Serves s.choice kind y z

-- The answer to something that x asks for: these SYSMODs supply it, it is waived, x would serve it itself, or it is
-- open and these received SYSMODs would serve it.
pub data Resolution : Type 0 where
  Supplied : List Id → Resolution
  Waived : Resolution
  ByItself : Resolution
  Open : List Id → Resolution

-- the zone into which x is installed, less what its DELETE takes out
abbrev pub left_by : Setting → Id → Zone
left_by s x = zone_left s (x ∷ [])

abbrev pub IsResolution : Setting → Id → Requisite → Resolution → Type 0
IsResolution s x r (Supplied ids) =
    IsTrue (is_met (left_by s x) r.kind r.id) × (ids ≡ suppliers (left_by s x) r.kind r.id)
IsResolution s x r Waived = IsFalse (is_met (left_by s x) r.kind r.id) × IsTrue (is_waived s.zone x r)
IsResolution s x r ByItself =
    IsFalse (is_met (left_by s x) r.kind r.id) × IsFalse (is_waived s.zone x r) × MayServe s r.kind r.id x
IsResolution s x r (Open ids) =
    IsFalse (is_met (left_by s x) r.kind r.id) × IsFalse (is_waived s.zone x r) × (¬ MayServe s r.kind r.id x)
    × IsRising ids × ((y : Id) → Contains ids y ↔ MayServe s r.kind r.id y)

-- how a SYSMOD is related to one that made an element
pub data Relation : Type 0 where
  Itself : Relation
  Over : Relation
  NotOver : Relation

abbrev pub is_over : Relation → Bool
is_over Over = true
is_over _ = false

abbrev pub IsRelation : Choice → Id → Id → Relation → Type 0
IsRelation c x z Itself = x ≡ z
IsRelation c x z Over = (x ≢ z) × IsOver c x z
IsRelation c x z NotOver = (x ≢ z) × ¬ IsOver c x z

-- a SYSMOD that made an element, and how x is related to it
pub record Maker : Type 0 where
  pub id : Id
  pub relation : Relation

-- what the zone has of an element that x changes: the owner, whether that is x's own, the RMID and the UMIDs
pub record ElementLevel : Type 0 where
  pub fmid : Id
  pub owned : Bool
  pub rmid : Maker
  pub umids : List Maker

pub record IsElementLevel (s : Setting) (x : Id) (e : Element) (f : ElementLevel) : Type 0 where
  pub fmid : f.fmid ≡ e.fmid
  pub owned : f.owned ≡ bytes_eq e.fmid (owner_of s x)
  pub makers : Beside (λ n z m. (m.id ≡ z) × IsRelation s.choice x z m.relation) (e.rmid ∷ e.umids) (f.rmid ∷ f.umids)

-- the element in the zone, if it has one
abbrev pub HasElementLevel : Setting → Id → Option Element → Option ElementLevel → Type 0
HasElementLevel s x None f = f ≡ None
HasElementLevel s x (Some e) f = (found : ElementLevel) × (f ≡ Some found) × IsElementLevel s x e found

pub data Fact : Type 0 where
  -- the id, its type if it is received, and its state
  StandingFact : Id → Option Kind → Standing → Fact
  -- a received SYSMOD that supersedes it, if it is missing
  SupersederFact : Id → Fact
  -- its entry in a zone of this kind
  EntryFact : ZoneKind → Entry → Fact
  -- a ++VER for the zone's SREL: its number, its FMID, whether it fits, and whether it is the one that counts
  VerFact : ℕ → Option Id → Bool → Bool → Fact
  -- something that it asks for
  RequisiteFact : Requisite → Resolution → Fact
  -- a hold, and for an ERROR hold the answer to its reason
  HoldFact : Hold → Option Resolution → Fact
  -- an element that it replaces, or otherwise updates; whether its FMID, as a candidate, brings the element; and the
  -- element as the zone has it
  ElementFact : ElemType → Text → Bool → Bool → Option ElementLevel → Fact
  -- an id that its DELETE names, and whether the id is in its own chain
  DeleteFact : Id → Bool → Fact
  -- an applied SYSMOD that its DELETE takes out
  TakesFact : Id → Fact
  -- an id that its NPRE names, and whether that is applied
  NpreFact : Id → Bool → Fact
  -- an applied function whose NPRE names it
  ForbiddenFact : Id → Fact
  -- an applied SYSMOD that needs what it supplies
  NeededFact : Id → Fact

abbrev pub standing_facts : Global → Zone → Id → List Fact
standing_facts g zone x =
    StandingFact x (option_map (λ s. s.kind) (sysmod_of g x)) (standing g zone x)
    ∷ map (EntryFact zone.kind) (at_most_one (entry_of zone x))

abbrev pub is_missing : Standing → Bool
is_missing StandsMissing = true
is_missing _ = false

-- the received SYSMODs that may be installed and supersede it, if it is missing, rising
pub record AreSuperseders (s : Setting) (x : Id) (ids : List Id) : Type 0 where
  pub rising : IsRising ids
  pub members : (y : Id) → Contains ids y ↔ (IsTrue (is_missing (standing s.global s.zone x)) × MayServe s Pre x y)

-- these ++VERs, numbered from n on, of which the one of a number counts
abbrev pub numbered_facts : (Ver → Bool) → ℕ → ℕ → List Ver → List Fact
numbered_facts fit counts n [] = []
numbered_facts fit counts n (v ∷ vs) =
    VerFact n v.fmid (fit v) (n == counts) ∷ numbered_facts fit counts (n + 1) vs

abbrev pub ver_facts : Setting → Id → List Fact
ver_facts s x =
    numbered_facts (fits s.zone (is_in s.cands)) (place s.global s.zone s.cands x + 1) 1
    (vers_of s.global s.zone.srel x)

abbrev pub IsRequisiteFact : Setting → Id → Requisite → Fact → Type 0
IsRequisiteFact s x r fact = (a : Resolution) × (fact ≡ RequisiteFact r a) × IsResolution s x r a

-- the holds on an id: first for ERROR, then SYSTEM and USER
abbrev pub holds_on : Global → Id → List Hold
holds_on g x = holds_of g Error x ++ holds_of g System x ++ holds_of g User x

-- for an ERROR hold the answer to its reason
abbrev pub HasResolution : Setting → Id → Hold → HoldKind → Option Resolution → Type 0
HasResolution s x h Error o =
    (a : Resolution) × (o ≡ Some a) × IsResolution s x (a_requisite HoldError x None h.reason) a
HasResolution s x h _ o = o ≡ None

abbrev pub IsHoldFact : Setting → Id → Hold → Fact → Type 0
IsHoldFact s x h fact = (o : Option Resolution) × (fact ≡ HoldFact h o) × HasResolution s x h h.kind o

abbrev pub IsElementFact : Setting → Id → Change → Fact → Type 0
IsElementFact s x h fact =
    (f : Option ElementLevel)
    × (fact ≡ ElementFact h.elem_type h.name (is_replacement h.action) (has_candidate_base s x h.elem_type h.name) f)
    × HasElementLevel s x (element_of (view_of s x) h.elem_type h.name) f

abbrev pub delete_facts : Setting → Id → List Fact
delete_facts s x =
    map (λ z. DeleteFact z (is_in (chain s.global s.choice x) z)) (del_of s.choice x)
    ++ map TakesFact (filter (is_taken_out s.global s.choice (del_of s.choice x) s.zone) (applied_ids s.zone))

-- whether y is a function whose NPRE names x
abbrev pub forbids : Setting → Id → Id → Bool
forbids s x y = is_function s.global y && is_in (npre_of s.choice y) x

abbrev pub npre_facts : Setting → Id → List Fact
npre_facts s x =
    map (λ y. NpreFact y (is_applied (view_of s x) y)) (npre_of s.choice x)
    ++ map ForbiddenFact (filter (forbids s x) (applied_ids (view_of s x)))

-- y needs what x supplies, as a RESTORE of x alone would find. (Such a need does not depend on the distribution zone.)
abbrev pub NeedsIt : Global → Zone → Id → Id → Type 0
NeedsIt g zone x y =
    (accepted : Zone)
    → NeedsInRestore (record { global = g; choice = counting g zone []; zone = zone; accepted = accepted })
    (is_in (x ∷ [])) x Dep y

-- the facts of what it asks for, and of its holds
pub record AreAsked (s : Setting) (x : Id) (facts : List Fact) : Type 0 where
  pub orphans : List Id
  pub orphans_are : AreOrphans s x orphans
  pub of_requisites : List Fact
  pub requisites_are : Beside (λ n r fact. IsRequisiteFact s x r fact) (requisites s x orphans) of_requisites
  pub of_holds : List Fact
  pub holds_are : Beside (λ n h fact. IsHoldFact s x h fact) (holds_on s.global x) of_holds
  pub facts_are : facts ≡ of_requisites ++ of_holds

-- the facts of its elements, and of what it deletes and forbids
pub record AreOfChanges (s : Setting) (x : Id) (facts : List Fact) : Type 0 where
  pub of_elements : List Fact
  pub elements_are : Beside (λ n h fact. IsElementFact s x h fact) (changes_of s.global x) of_elements
  pub facts_are : facts ≡ of_elements ++ delete_facts s x ++ npre_facts s x

-- All facts of an id, in their order.
pub record AreFacts (s : Setting) (x : Id) (facts : List Fact) : Type 0 where
  pub superseders : List Id
  pub superseders_are : AreSuperseders s x superseders
  pub asked : List Fact
  pub asked_are : AreAsked s x asked
  pub changes : List Fact
  pub changes_are : AreOfChanges s x changes
  pub needed_by : List Id
  pub needed_rising : IsRising needed_by
  pub needed : (y : Id) → Contains needed_by y ↔ NeedsIt s.global s.zone x y
  pub facts_are : facts
      ≡ standing_facts s.global s.zone x ++ map SupersederFact superseders ++ ver_facts s x ++ asked ++ changes
      ++ map NeededFact needed_by
