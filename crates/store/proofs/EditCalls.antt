-- The statements of edits, where SYSMODs that come wait.
use Rattle.std.proofs.Common.{◌≡◌, ℕ, ◌<◌, ◌+◌, Bool, true, false, List, [], ◌∷◌, ◌++◌, length, take, drop, get_or}
use Rattle.std.proofs.Common.{Option, None, Some, refl, sym, ap, ◌∙◌, append-nil}
use Rattle.std.specs.Prelude.{◌==◌, if◌then◌else◌, fold}
use Rattle.std.specs.Option.{option_map_or}
use Rattle.std.proofs.lemmas.List.{append_assoc, take-append-drop}
use Rattle.std.proofs.lemmas.List.Sums.{fold-append, fold_more}
use Rattle.terms.specs.Types.{Sysmod, Global}
use Rattle.terms.specs.Lookups.{sysmod_of}
use Rattle.sysmods.specs.declared.edit.GlobalEdit.{GlobalEdit}
use Rattle.sysmods.specs.declared.edit.GlobalEdit.TheVariants.{PutHold, RemoveHold, InsertSysmod, ReplaceSources}
use Rattle.sysmods.specs.declared.edit.GlobalEdit.TheVariants.{RemoveSysmod}
use Rattle.store_rows.specs.Calls.{Call}
use Rattle.store_sysmods.specs.Calls.{insert_sysmods_calls}
use Rattle.store_sysmods.specs.Sysmods.{sourced}
use Rattle.store.specs.Calls.{Progress, progress_of, edits_calls, most_wait, with_edit, with_room, with_waiting}

-- the course goes on behind these statements
abbrev pub behind : List Call → Progress → Progress
behind calls progress = (calls ++ progress.0, progress.1)

pub stays_behind : (progress : Progress) → progress ≡ behind progress.0 ([], progress.1)
stays_behind progress = ap (λ calls. (calls, progress.1)) (sym (append-nil progress.0))

-- there is room already, or it is made
abbrev room_if : Bool → Progress → Progress
room_if full progress = if full then (progress.0 ++ insert_sysmods_calls progress.1, []) else progress

room_if_behind : (full : Bool) (progress : Progress)
    → room_if full progress ≡ behind progress.0 (room_if full ([], progress.1))
room_if_behind true progress = refl
room_if_behind false progress = stays_behind progress

room_behind : (progress : Progress) → with_room progress ≡ behind progress.0 (with_room ([], progress.1))
room_behind progress = room_if_behind (length progress.1 == most_wait) progress

waiting_behind : (progress : Progress) (s : Sysmod)
    → with_waiting progress s ≡ behind progress.0 (with_waiting ([], progress.1) s)
waiting_behind progress s = ap (λ (room : Progress). (room.0, room.1 ++ s ∷ [])) (room_behind progress)

found_behind : (progress : Progress) (add : Sysmod → Sysmod) (found : Option Sysmod)
    → option_map_or (λ s. with_waiting progress (add s)) found progress
    ≡ behind progress.0 (option_map_or (λ s. with_waiting ([], progress.1) (add s)) found ([], progress.1))
found_behind progress add None = stays_behind progress
found_behind progress add (Some s) = waiting_behind progress (add s)

-- an edit adds statements, and which ones does not depend on those before them
pub edit_behind : (stated : Global) (progress : Progress) (edit : GlobalEdit)
    → with_edit stated progress edit ≡ behind progress.0 (with_edit stated ([], progress.1) edit)
edit_behind stated progress (PutHold hold) = refl
edit_behind stated progress (RemoveHold id kind reason) = refl
edit_behind stated progress (InsertSysmod id sources) =
    found_behind progress (λ s. sourced s sources.items) (sysmod_of stated id)
edit_behind stated progress (ReplaceSources s) = refl
edit_behind stated progress (RemoveSysmod id) = refl

edits_behind : (stated : Global) (edits : List GlobalEdit) (progress : Progress)
    → (more : List Call) × ((fold (with_edit stated) progress edits).0 ≡ progress.0 ++ more)
edits_behind stated [] progress = ([], sym (append-nil progress.0))
edits_behind stated (edit ∷ edits) progress =
    let own = (with_edit stated ([], progress.1) edit).0 in
    let rest = edits_behind stated edits (with_edit stated progress edit) in (
      own ++ rest.0,
      rest.1 ∙ ap (λ (next : Progress). next.0 ++ rest.0) (edit_behind stated progress edit)
          ∙ append_assoc progress.0 own rest.0,
    )

-- the course of one edit more
pub course_more : (stated : Global) (edits : List GlobalEdit) (k : ℕ) (edit : GlobalEdit) → k < length edits
    → edit ≡ get_or edits k edit
    → behind (progress_of stated (take k edits)).0 (with_edit stated ([], (progress_of stated (take k edits)).1) edit)
    ≡ progress_of stated (take (k + 1) edits)
course_more stated edits k edit within at =
    sym (edit_behind stated (progress_of stated (take k edits)) edit)
    ∙ sym (fold_more (with_edit stated) ([], []) edits k edit within
    ∙ ap (with_edit stated (progress_of stated (take k edits))) (sym at))

-- what runs behind so many edits
pub calls_behind : (stated : Global) (edits : List GlobalEdit) (n : ℕ)
    → (more : List Call) × ((progress_of stated (take n edits)).0 ++ more ≡ edits_calls stated edits)
calls_behind stated edits n =
    let progress = progress_of stated (take n edits) in
    let rest = edits_behind stated (drop n edits) progress in
    let last = progress_of stated edits in
    let whole : (fold (with_edit stated) progress (drop n edits)).0 ≡ last.0 =
    ap (λ (c : Progress). c.0) (sym (fold-append (with_edit stated) ([], []) (take n edits) (drop n edits))
    ∙ ap (progress_of stated) (take-append-drop n edits)) in (
      rest.0 ++ insert_sysmods_calls last.1,
      sym (append_assoc progress.0 rest.0 (insert_sysmods_calls last.1))
          ∙ ap (λ l. l ++ insert_sysmods_calls last.1) (sym rest.1 ∙ whole),
    )
