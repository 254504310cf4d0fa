-- Ids that are rejected, one after another.
use Rattle.std.proofs.Common.{◌≡◌, ◌∙◌, Bool, true, false, not, List, [], ◌∷◌, ◌++◌, map, take, All, sym, ap, subst, Ok}
use Rattle.std.proofs.Common.{Err, true≢false, if◌then◌else◌, refl, append-nil, arith}
use Rattle.std.specs.Prelude.{Result, IsOk, OnOk}
use Rattle.std.specs.List.{list_any}
use Rattle.std.proofs.lemmas.List.{map-append}
use Rattle.std.proofs.lemmas.List.Elements.{All-append}
use Rattle.std.proofs.lemmas.List.Sums.{fold-append}
use Rattle.indexmap.specs.IndexMap.{IndexMap, values}
use Rattle.terms.specs.Types.{Text, Id, Global, Zone, NamedZone}
use Rattle.terms.specs.Lookups.{is_received, is_applied}
use Rattle.terms.specs.Global.{IsGlobal, RejectFault, AppliedSomewhere, UnknownSysmod, reject, without_sysmod}
use Rattle.machine.specs.Runs.{Runs}
use Rattle.machine.specs.Receiving.{global_after}
use Rattle.machine.proofs.Joined.{runs_append}
use Rattle.machine.specs.Rejecting.{reject_status, RejectsId}
use Rattle.report.specs.declared.outcome.Status.{Status}
use Rattle.report.specs.declared.outcome.Status.TheVariants.{Rejected}
use Rattle.report.specs.declared.outcome.ReportLine.{ReportLine}
use Rattle.report.specs.Views.{line_view, status_view}
use Rattle.sysmods.specs.declared.edit.GlobalEdit.{GlobalEdit}
use Rattle.sysmods.specs.declared.edit.GlobalEdit.TheVariants.{RemoveHold, RemoveSysmod, PutHold, InsertSysmod}
use Rattle.sysmods.specs.declared.edit.GlobalEdit.TheVariants.{ReplaceSources}
use Rattle.sysmods.specs.Edits.{Fits, after_edit, after_edits, EachFits, IsOfReject}
use Rattle.smpe_global.specs.Rejections.{AppliesAlike, edits_of, IsAnswered, AreRejected, IsRejected}
use Rattle.smpe_global.proofs.Dropping.{edits_make, edits_reject}

-- an edit of REJECT fits each global zone
fits_always : (e : GlobalEdit) → IsOfReject e → (g : Global) → Fits g e
fits_always (RemoveSysmod x) is g = tt
fits_always (RemoveHold x kind reason) is g = tt
fits_always (PutHold h) is g = absurd is
fits_always (InsertSysmod x sources) is g = absurd is
fits_always (ReplaceSources s) is g = absurd is

-- so they fit one after the other
pub each_fits : (stated : Global) (edits : List GlobalEdit) (g : Global) → All IsOfReject edits
    → EachFits stated edits g
each_fits stated edits g all k edit below at =
    fits_always edit (subst IsOfReject (sym at) (all k edit below)) (after_edits stated (take k edits) g)

-- what REJECT answers, by whether it is received and whether it is applied
abbrev pub answer : Global → Id → Bool → Bool → Result Global RejectFault
answer g x received applied = if not received then Err UnknownSysmod else if applied then Err AppliedSomewhere
    else Ok (without_sysmod g x)

module _ {S : Type 0} (zones : IndexMap Text Zone S) (g : Global) (x : Id) where
  abbrev applied : Bool
  applied = list_any (λ zone. is_applied zone x) (values zones)

  answered : (named : List NamedZone) → AppliesAlike zones named → (r a : Bool) → is_received g x ≡ r → applied ≡ a
      → reject g named x ≡ answer g x r a
  answered named alike r a received is = ap (λ b. answer g x b (list_any (λ z. is_applied z.zone x) named)) received
      ∙ ap (answer g x r) (alike x ∙ is)

  pub left_in : (edits : List GlobalEdit) (r a : Bool) (why : RejectFault) (status : Status) → is_received g x ≡ r
      → applied ≡ a → answer g x r a ≡ Err why → status_view status ≡ reject_status (Err why)
      → IsAnswered zones g x g edits edits status
  left_in edits r a why status received is answers printed = record {
    own = [];
    edits_are = sym (append-nil edits);
    rejects = λ k d below. absurd (omega (arith, below));
    after = λ stated. refl;
    leads = λ named alike. sym (ap (global_after g) (answered named alike r a received is ∙ answers));
    told = λ named alike. printed ∙ sym (ap reject_status (answered named alike r a received is ∙ answers));
  }

  pub taken_out : (new : Global) (edits later : List GlobalEdit) → IsGlobal g → is_received g x ≡ true → applied ≡ false
      → later ≡ edits ++ edits_of g x → new ≡ without_sysmod g x
      → IsAnswered zones g x new edits later Rejected
  taken_out new edits later known there free written out = record {
    own = edits_of g x;
    edits_are = written;
    rejects = edits_reject g x;
    after = λ stated. edits_make g x known stated ∙ sym out;
    leads = λ named alike. out ∙ sym (ap (global_after g) (answered named alike true false there free));
    told = λ named alike. sym (ap reject_status (answered named alike true false there free));
  }

-- a call that does what it does where it answers Ok
pub on_ok : {A E : Type 0} (P : Type 0) (r : Result A E) → IsOk r → OnOk r P → P
on_ok P (Ok a) is done = done
on_ok P (Err e) is done = absurd (true≢false (sym is))

module _ {S : Type 0} (zones : IndexMap Text Zone S) (g : Global) where
  -- one id more
  pub more_rejected : (m new : Global) (ids : List Id) (x : Id) (edits later : List GlobalEdit)
      (lines printed : List ReportLine)
      → AreRejected zones g ids m edits lines → IsRejected zones m x new edits later lines printed
      → AreRejected zones g (ids ++ x ∷ []) new later printed
  more_rejected m new ids x edits later lines printed front back =
      let step = back.rejected in
      let made : AreRejected zones g (ids ++ x ∷ []) new (edits ++ back.own) (lines ++ back.line ∷ []) = record {
        runs = λ named alike. subst (Runs (RejectsId named) g (ids ++ x ∷ []) new)
            (sym (map-append line_view lines (back.line ∷ [])))
            (runs_append (RejectsId named) g m new ids (x ∷ []) (map line_view lines) (line_view back.line ∷ [])
            (front.runs named alike) (step.runs named alike));
        rejects = All-append IsOfReject edits back.own front.rejects step.rejects;
        after = λ stated. fold-append (after_edit stated) g edits back.own
            ∙ ap (after_edits stated back.own) (front.after stated) ∙ step.after stated;
      } in
      subst (λ es. AreRejected zones g (ids ++ x ∷ []) new es printed) (sym back.edits_are)
      (subst (AreRejected zones g (ids ++ x ∷ []) new (edits ++ back.own)) (sym back.lines_are) made)
