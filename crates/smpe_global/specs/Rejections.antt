-- How the ids change the global zone, and by which edits the tables follow.
use Rattle.std.specs.Prelude.{◌≡◌, List, [], ◌∷◌, ◌++◌, map, filter, All}
use Rattle.std.specs.List.{list_any}
use Rattle.indexmap.specs.IndexMap.{IndexMap, values}
use Rattle.terms.specs.declared.kinds.HoldKind.TheVariants.{System}
use Rattle.terms.specs.Types.{Text, Id, Hold, Global, Zone, NamedZone}
use Rattle.terms.specs.Lookups.{holds_of, is_applied}
use Rattle.terms.specs.Global.{reject}
use Rattle.machine.specs.Runs.{Runs}
use Rattle.machine.specs.Receiving.{global_after}
use Rattle.machine.specs.Rejecting.{reject_status, RejectsId}
use Rattle.report.specs.declared.outcome.Status.{Status}
use Rattle.report.specs.declared.outcome.ReportLine.{ReportLine}
use Rattle.report.specs.Views.{line_view, status_view}
use Rattle.sysmods.specs.declared.edit.GlobalEdit.{GlobalEdit}
use Rattle.sysmods.specs.declared.edit.GlobalEdit.TheVariants.{RemoveHold, RemoveSysmod}
use Rattle.sysmods.specs.Edits.{after_edits, IsOfReject}

-- Some zone of the map has an id applied exactly if one of the named zones has.
abbrev pub AppliesAlike : {S : Type 0} → IndexMap Text Zone S → List NamedZone → Type 0
AppliesAlike zones named = (x : Id) → list_any (λ z. is_applied z.zone x) named ≡ list_any (λ zone. is_applied zone x)
    (values zones)

abbrev pub removal : Hold → GlobalEdit
removal h = RemoveHold h.id h.kind h.reason

-- the SYSMOD, and then the internal holds on it
abbrev pub edits_of : Global → Id → List GlobalEdit
edits_of g x = RemoveSysmod x ∷ map removal (filter (λ h. h.internal) (holds_of g System x))

-- The id is rejected or refused. The edits, after those before, are REJECT's and lead to the same zone, whatever
-- SYSMODs state.
pub record IsAnswered {S : Type 0} (zones : IndexMap Text Zone S) (g : Global) (x : Id) (new : Global)
    (edits later : List GlobalEdit) (status : Status) : Type 0 where
  pub own : List GlobalEdit
  pub edits_are : later ≡ edits ++ own
  pub rejects : All IsOfReject own
  pub after : (stated : Global) → after_edits stated own g ≡ new
  pub leads : (named : List NamedZone) → AppliesAlike zones named → new ≡ global_after g (reject g named x)
  pub told : (named : List NamedZone) → AppliesAlike zones named → status_view status ≡ reject_status (reject g named x)

-- The ids lead from g to new, and print these lines. The edits are REJECT's, and lead there too.
pub record AreRejected {S : Type 0} (zones : IndexMap Text Zone S) (g : Global) (ids : List Id) (new : Global)
    (edits : List GlobalEdit) (lines : List ReportLine) : Type 0 where
  pub runs : (named : List NamedZone) → AppliesAlike zones named
      → Runs (RejectsId named) g ids new (map line_view lines)
  pub rejects : All IsOfReject edits
  pub after : (stated : Global) → after_edits stated edits g ≡ new

-- One id, after what was written and printed before.
pub record IsRejected {S : Type 0} (zones : IndexMap Text Zone S) (g : Global) (x : Id) (new : Global)
    (edits later : List GlobalEdit) (lines printed : List ReportLine) : Type 0 where
  pub own : List GlobalEdit
  pub edits_are : later ≡ edits ++ own
  pub line : ReportLine
  pub lines_are : printed ≡ lines ++ line ∷ []
  pub rejected : AreRejected zones g (x ∷ []) new own (line ∷ [])
