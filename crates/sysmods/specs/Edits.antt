-- What edits make of the global zone.
use Rattle.std.specs.Prelude.{◌≡◌, ◌<◌, ℕ, false, List, All, IsTrue, Some, fold, length, get_or, take}
use Rattle.std.specs.Ordering.{nat_cmp}
use Rattle.std.specs.Cmp.Lexicographic.{slice_cmp}
use Rattle.std.specs.Option.{option_map_or}
use Rattle.terms.specs.Types.{Text, Id, Hold, Sysmod, Global}
use Rattle.terms.specs.Forms.{IsSource}
use Rattle.terms.specs.Global.{hold_cmp, with_sysmod, without_hold}
use Rattle.terms.specs.HoldStatements.{HasShortComment}
use Rattle.terms.specs.Lookups.{is_received, sysmod_of}
use Rattle.terms.specs.Rising.{Rises, with_item}
use Rattle.sysmods_values.specs.Edited.{with_sources, less_sysmod}
use Rattle.sysmods.specs.declared.edit.GlobalEdit.{GlobalEdit}
use Rattle.sysmods.specs.declared.edit.GlobalEdit.TheVariants.{PutHold, RemoveHold, InsertSysmod, ReplaceSources}
use Rattle.sysmods.specs.declared.edit.GlobalEdit.TheVariants.{RemoveSysmod}

-- the hold at its place, instead of one of the same key
abbrev pub with_hold : Hold → Global → Global
with_hold h g = record g { holds = with_item hold_cmp (λ (o : Hold). o) g.holds h }

-- the SYSMOD of this id, with these sources and with what it states in `stated`
abbrev pub stated_with : Global → Id → List Text → Global → Global
stated_with stated x sources g =
    option_map_or (λ (s : Sysmod). with_sysmod g (record s { sources = sources })) (sysmod_of stated x) g

-- What an edit makes of the global zone. The statements of the SYSMODs are those in `stated`.
abbrev pub after_edit : Global → Global → GlobalEdit → Global
after_edit stated g (PutHold h) = with_hold h g
after_edit stated g (RemoveHold x kind reason) = without_hold x kind reason g
after_edit stated g (InsertSysmod x sources) = stated_with stated x sources.items g
after_edit stated g (ReplaceSources s) = with_sources s.id s.sources g
after_edit stated g (RemoveSysmod x) = less_sysmod x g

-- no source twice, in order
abbrev pub AreSources : List Text → Type 0
AreSources sources = Rises (slice_cmp nat_cmp) (λ t. t) sources

-- A SYSMOD that is inserted is not received. One whose sources are replaced is received, and keeps its kind.
abbrev pub Fits : Global → GlobalEdit → Type 0
Fits g (InsertSysmod x sources) = (is_received g x ≡ false) × AreSources sources.items
Fits g (ReplaceSources s) =
    IsTrue (is_received g s.id) × All (λ r. r.id ≡ s.id → r.kind ≡ s.kind) g.sysmods × AreSources s.sources
Fits g _ = Unit {0}

-- the global zone after one edit and the next
abbrev pub after_edits : Global → List GlobalEdit → Global → Global
after_edits stated edits g = fold (after_edit stated) g edits

-- each edit fits what those before it make of the global zone
abbrev pub EachFits : Global → List GlobalEdit → Global → Type 0
EachFits stated edits g = (k : ℕ) (edit : GlobalEdit) → k < length edits → edit ≡ get_or edits k edit
    → Fits (after_edits stated (take k edits) g) edit

-- Each SYSMOD of the global zone is also one of `later`, and states the same there; only its sources may differ.
abbrev pub StatesThose : Global → Global → Type 0
StatesThose later g = (x : Id) (s : Sysmod) → sysmod_of g x ≡ Some s
    → (sources : List Text) × (sysmod_of later x ≡ Some (record s { sources = sources }))

-- RECEIVE writes SYSMODs, sources and holds, and removes holds that are released. It removes no SYSMOD.
abbrev pub IsOfReceive : GlobalEdit → Type 0
IsOfReceive (RemoveSysmod x) = ⊥
IsOfReceive _ = Unit {0}

-- REJECT removes SYSMODs and holds, and writes none.
abbrev pub IsOfReject : GlobalEdit → Type 0
IsOfReject (RemoveSysmod x) = Unit {0}
IsOfReject (RemoveHold x kind reason) = Unit {0}
IsOfReject _ = ⊥

-- What it writes has a form that the tables take: a comment of at most 200 characters, sources that are source ids.
abbrev pub HasWrittenForm : GlobalEdit → Type 0
HasWrittenForm (PutHold h) = HasShortComment h
HasWrittenForm (InsertSysmod x sources) = All IsSource sources.items
HasWrittenForm (ReplaceSources s) = All IsSource s.sources
HasWrittenForm _ = Unit {0}
