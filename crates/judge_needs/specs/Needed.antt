-- What a candidate needs that neither BYPASS nor what is left of the zone meets.
use Rattle.std.specs.Prelude.{◌≡◌, ◌≢◌, ◌↔◌, ◌++◌, ◌&&◌, Bool, not, List, AllPairs, Contains, IsTrue}
use Rattle.terms.specs.declared.codes.NeedKind.{NeedKind}
use Rattle.terms.specs.Types.{Id, Zone, Bypass}
use Rattle.terms.specs.Tests.{Setting}
use Rattle.terms.specs.Needs.{asked, is_bypassed, is_met, zone_left}
use Rattle.judge_system.specs.declared.stated.RequisiteOf.{RequisiteOf}
use Rattle.judge_system.specs.Said.{a_need}

-- whether neither BYPASS nor the zone meets a need
abbrev pub is_open : Zone → Bypass → NeedKind → Id → Bool
is_open zone b kind z = not (is_bypassed b kind) && not (is_met zone kind z)

-- the candidate asks for it, and neither BYPASS nor what is left of the zone meets it
abbrev pub IsOpen : Setting → List Id → Zone → Id → NeedKind → Id → Type 0
IsOpen s survivors left x kind z = Contains (asked s survivors x kind) z × IsTrue (is_open left s.bypass kind z)

-- the list has these needs, each once
pub record AreAllNeeds (Done : Id → NeedKind → Id → Type 0) (needs : List RequisiteOf) : Type 0 where
  pub members : (x : Id) (kind : NeedKind) (z : Id) → Contains needs (a_need x kind z) ↔ Done x kind z
  pub once : AllPairs (λ v w. v ≢ w) needs

-- some needs of one more candidate are added, each once
pub record AddsPart (of : Id) (Part : NeedKind → Id → Type 0) (old new : List RequisiteOf) : Type 0 where
  pub more : List RequisiteOf
  pub are : new ≡ old ++ more
  pub needs : AreAllNeeds (λ x kind z. (x ≡ of) × Part kind z) more

-- the needs of one kind: the ids of the list that neither BYPASS nor the zone meets
abbrev pub IsOfKind : Zone → Bypass → NeedKind → List Id → NeedKind → Id → Type 0
IsOfKind zone b kind asked k z = (k ≡ kind) × Contains asked z × IsTrue (is_open zone b kind z)

-- the needs of these candidates, given what is left of the zone, each once
abbrev pub AreNeedsOf : Setting → List Id → Zone → List Id → List RequisiteOf → Type 0
AreNeedsOf s survivors left xs needs =
    AreAllNeeds (λ x kind z. Contains xs x × IsOpen s survivors left x kind z) needs

-- the needs of all candidates, each once
abbrev pub AreNeeds : Setting → List Id → List RequisiteOf → Type 0
AreNeeds s survivors needs = AreNeedsOf s survivors (zone_left s survivors) s.cands needs
