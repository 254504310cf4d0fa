-- The edits by which the tables follow, and what the calls of the global zone return.
use Rattle.std.specs.Prelude.{◌≡◌, List, [], ◌∷◌, map, Option, None, Some, option_map, Result, Ok, Err, Vec}
use Rattle.std.specs.declared.alloc.Global.{Global as AnyGlobal}
use Rattle.terms.specs.declared.kinds.HoldKind.{HoldKind}
use Rattle.terms.specs.Types.{Text, Id, Global, Sysmod}
use Rattle.terms.specs.Global as rule
use Rattle.sysmods.specs.declared.refused.Refused.{Refused}
use Rattle.sysmods.specs.Refused.{fault_of}
use Rattle.sysmods.specs.declared.holds.ReleaseError.{ReleaseError}
use Rattle.sysmods.specs.Faults.{release_fault}
use Rattle.sysmods.specs.declared.edit.GlobalEdit.{GlobalEdit}
use Rattle.sysmods.specs.declared.edit.GlobalEdit.TheVariants.{PutHold, RemoveHold, InsertSysmod, ReplaceSources}

-- what RECEIVE returns for a SYSMOD, unless memory runs out
abbrev pub answer_of : Global → Result (Unit {0}) Refused → Option (Result Global rule.ReceiveFault)
answer_of new (Ok done) = Some (Ok new)
answer_of new (Err why) = option_map (λ fault. Err fault) (fault_of why)

-- the SYSMOD, and then its holds
abbrev pub AreEditsOf : Sysmod → List GlobalEdit → Type 0
AreEditsOf s edits =
    (sources : Vec Text AnyGlobal) × (sources.items ≡ s.sources)
    × (edits ≡ InsertSysmod s.id sources ∷ map (λ h. PutHold h) s.holds)

-- the SYSMOD with its sources, but without its statements
abbrev pub head_of : Sysmod → Sysmod
head_of s = record s { vers = []; changes = []; holds = [] }

-- the edits that write the sources of a received SYSMOD
abbrev pub source_edits : Option Sysmod → List GlobalEdit
source_edits None = []
source_edits (Some s) = ReplaceSources (head_of s) ∷ []

-- what a release returns
abbrev pub release_answer : Global → Result (Unit {0}) ReleaseError → Result Global rule.ReleaseFault
release_answer new (Ok done) = Ok new
release_answer new (Err why) = Err (release_fault why)

-- the edit that removes a hold that is released
abbrev pub release_edits : Id → HoldKind → Text → Result (Unit {0}) ReleaseError → List GlobalEdit
release_edits x kind reason (Ok done) = RemoveHold x kind reason ∷ []
release_edits x kind reason (Err why) = []
