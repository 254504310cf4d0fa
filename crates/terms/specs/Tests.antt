-- The tests that a candidate of APPLY or ACCEPT passes or fails before its needs are considered. (IBM z/OS SMP/E
-- Commands, APPLY and ACCEPT processing, and BYPASS; Reference, ++HOLD, NPRE and DELETE of ++VER. Their order and
-- numbers are this project's profile.)
use Rattle.std.specs.Prelude.{◌≡◌, ◌≢◌, ◌⊎◌, ◌↔◌, ◌≤◌, ◌&&◌, ◌||◌, Bool, true, false, not, List, [], ◌∷◌, Option, None}
use Rattle.std.specs.Prelude.{Some, filter, length, IsTrue, IsFalse, Contains}
use Rattle.std.specs.Option.{option_map_or}
use Rattle.terms.specs.declared.kinds.HoldKind.{HoldKind}
use Rattle.terms.specs.declared.kinds.HoldKind.TheVariants.{Error, System, User}
use Rattle.terms.specs.declared.kinds.ElemType.{ElemType}
use Rattle.terms.specs.declared.kinds.ZoneKind.TheVariants.{Distribution}
use Rattle.terms.specs.declared.codes.Test.{Test}
use Rattle.terms.specs.declared.codes.Test.TheVariants.{HeldBySystem, HeldByUser, ForbiddenByNpre, OwnedByAnother}
use Rattle.terms.specs.declared.codes.Test.TheVariants.{Regression, NothingToUpdate, NotInTarget, ChainDeleted}
use Rattle.terms.specs.declared.codes.Test.TheVariants.{InClash, SeveralFit}
use Rattle.terms.specs.Types.{Reason, Name, Id, Hold, Global, Element, Zone, Reasons, NoReason, AnyReason, TheseReasons}
use Rattle.terms.specs.Types.{Bypass}
use Rattle.terms.specs.Lookups.{IsRising, is_in, has_change, holds_of, element_of, is_applied, is_function}
use Rattle.terms.specs.Choice.{Choice, vers_of, fits, fmid_of, npre_of, del_of}
use Rattle.terms.specs.Over.{IsOver, owner}
use Rattle.terms.specs.Changes.{has_replacement, has_update}
use Rattle.terms.specs.Deleted.{is_deleted, view}

-- what an APPLY or ACCEPT looks at: ACCEPT also at the related target zone, if there is one
pub record Setting : Type 0 where
  pub global : Global
  pub choice : Choice
  pub zone : Zone
  pub related : Option Zone
  pub cands : List Id
  pub bypass : Bypass

-- a candidate's view of the zone
abbrev pub view_of : Setting → Id → Zone
view_of s x = view s.global s.choice s.cands s.zone x

abbrev pub owner_of : Setting → Id → Id
owner_of s x = owner s.global s.choice x

abbrev pub covers : Reasons → Reason → Bool
covers NoReason reason = false
covers AnyReason reason = true
covers (TheseReasons reasons) reason = is_in reasons reason

-- HOLDERROR, HOLDSYSTEM or HOLDUSER
abbrev pub reasons_of : Bypass → HoldKind → Reasons
reasons_of b Error = b.holderror
reasons_of b System = b.holdsystem
reasons_of b User = b.holduser

-- whether BYPASS covers the hold, by its reason or by its class
abbrev pub is_bypassed_hold : Bypass → Hold → Bool
is_bypassed_hold b h = covers (reasons_of b h.kind) h.reason || option_map_or (is_in b.holdclass) h.class false

-- the holds of a kind that keep it off
abbrev pub standing_holds : Setting → HoldKind → Id → List Hold
standing_holds s kind x = filter (λ h. not (is_bypassed_hold s.bypass h)) (holds_of s.global kind x)

-- HeldBySystem: a SYSTEM hold keeps it off
abbrev pub IsHeldBySystem : Setting → Id → Type 0
IsHeldBySystem s x = standing_holds s System x ≢ []

-- HeldByUser: a USER hold keeps it off
abbrev pub IsHeldByUser : Setting → Id → Type 0
IsHeldByUser s x = standing_holds s User x ≢ []

-- ForbiddenByNpre: its NPRE names a SYSMOD that is applied in its view, or the NPRE of a function that is applied there
-- names it
abbrev pub IsForbiddenByNpre : Setting → Id → Type 0
IsForbiddenByNpre s x = (y : Id) × IsTrue (is_applied (view_of s x) y)
    × (Contains (npre_of s.choice x) y ⊎ (IsTrue (is_function s.global y) × Contains (npre_of s.choice y) x))

-- x replaces or updates this element of its view
abbrev pub ChangesInView : Setting → Id → Element → Type 0
ChangesInView s x e = (type : ElemType) × (name : Name)
    × IsTrue (has_change s.global x type name) × (element_of (view_of s x) type name ≡ Some e)

-- OwnedByAnother: an element that it changes has another owner in its view
abbrev pub ChangesOwnedByAnother : Setting → Id → Type 0
ChangesOwnedByAnother s x = (e : Element) × ChangesInView s x e × (e.fmid ≢ owner_of s x)

-- Regression: an element that it changes has in its view an RMID or UMID that it is not over. BYPASS(ID) leaves this
-- test out.
abbrev pub Regresses : Setting → Id → Type 0
Regresses s x = IsFalse s.bypass.same_id
    × ((e : Element) × (z : Id) × ChangesInView s x e × Contains (e.rmid ∷ e.umids) z × ¬ IsOver s.choice x z)

-- whether its FMID is a candidate that replaces the element
abbrev pub has_candidate_base : Setting → Id → ElemType → Name → Bool
has_candidate_base s x type name =
    option_map_or (λ f. is_in s.cands f && has_replacement s.global f type name) (fmid_of s.choice x) false

-- NothingToUpdate: it updates an element that its view lacks, and no replacement of the element comes with its FMID as
-- a candidate
abbrev pub HasNothingToUpdate : Setting → Id → Type 0
HasNothingToUpdate s x = (type : ElemType) × (name : Name) × IsTrue (has_update s.global x type name)
    × (element_of (view_of s x) type name ≡ None) × IsFalse (has_candidate_base s x type name)

-- NotInTarget, for ACCEPT: no related target zone has applied it. BYPASS(APPLYCHECK) leaves this test out.
abbrev pub IsNotInTarget : Setting → Id → Type 0
IsNotInTarget s x =
    (s.zone.kind ≡ Distribution)
    × IsFalse s.bypass.applycheck
    × IsFalse (option_map_or (λ target. is_applied target x) s.related false)

-- SeveralFit: two or more of its ++VERs for the zone's SREL fit
abbrev pub HasSeveralFit : Setting → Id → Type 0
HasSeveralFit s x = 2 ≤ length (filter (fits s.zone (is_in s.cands)) (vers_of s.global s.zone.srel x))

-- It fails a test that looks only at the candidate itself.
abbrev pub FailsAlone : Setting → Id → Test → Type 0
FailsAlone s x HeldBySystem = IsHeldBySystem s x
FailsAlone s x HeldByUser = IsHeldByUser s x
FailsAlone s x ForbiddenByNpre = IsForbiddenByNpre s x
FailsAlone s x OwnedByAnother = ChangesOwnedByAnother s x
FailsAlone s x Regression = Regresses s x
FailsAlone s x NothingToUpdate = HasNothingToUpdate s x
FailsAlone s x NotInTarget = IsNotInTarget s x
FailsAlone s x SeveralFit = HasSeveralFit s x
FailsAlone s x _ = ⊥

-- a candidate that passes these
abbrev pub PassesAlone : Setting → Id → Type 0
PassesAlone s x = Contains s.cands x × ((test : Test) → ¬ FailsAlone s x test)

-- ChainDeleted: a DELETE of those that pass these tests names it or an id of its chain; the DELETE may be its own
abbrev pub IsChainDeleted : Setting → Id → Type 0
IsChainDeleted s x = PassesAlone s x
    × ((y : Id) × PassesAlone s y × IsTrue (is_deleted s.global s.choice (del_of s.choice y) x))

-- a survivor: it passes these tests, and no DELETE takes it out
abbrev pub Survives : Setting → Id → Type 0
Survives s x = PassesAlone s x × ¬ IsChainDeleted s x

-- all survivors
pub record AreSurvivors (s : Setting) (ids : List Id) : Type 0 where
  pub rising : IsRising ids
  pub members : (x : Id) → Contains ids x ↔ Survives s x

-- both change one element
abbrev pub ShareElement : Global → Id → Id → Type 0
ShareElement g x y = (type : ElemType) × (name : Name) × IsTrue (has_change g x type name)
    × IsTrue (has_change g y type name)

-- they have two owners, or neither is over the other
abbrev pub MayNotShare : Setting → Id → Id → Type 0
MayNotShare s x y = (owner_of s x ≢ owner_of s y) ⊎ ((¬ IsOver s.choice x y) × (¬ IsOver s.choice y x))

-- one names the other in NPRE, or they are unordered and share an element
abbrev pub Clash : Setting → Id → Id → Type 0
Clash s x y =
    Contains (npre_of s.choice x) y ⊎ Contains (npre_of s.choice y) x ⊎ (ShareElement s.global x y × MayNotShare s x y)

-- InClash: it is a survivor and clashes with another one
abbrev pub IsInClash : Setting → Id → Type 0
IsInClash s x = Survives s x × ((y : Id) × Survives s y × (x ≢ y) × Clash s x y)

-- a survivor that clashes with no other one
abbrev pub IsEligible : Setting → Id → Type 0
IsEligible s x = Survives s x × ¬ IsInClash s x

-- a candidate of APPLY or ACCEPT fails the test; RESTORE has three tests of its own
abbrev pub Fails : Setting → Id → Test → Type 0
Fails s x ChainDeleted = IsChainDeleted s x
Fails s x InClash = IsInClash s x
Fails s x test = FailsAlone s x test
