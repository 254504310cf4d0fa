-- A SYSMOD that is received or refused.
use Rattle.std.proofs.Common.{◌≡◌, ◌∙◌, List, [], ◌∷◌, ◌++◌, refl, sym, ap, subst, Option, None, Some, Ok, Err, All}
use Rattle.std.proofs.Common.{map, option_map, append-nil}
use Rattle.std.proofs.lemmas.Bool.{false_from_ne_true}
use Rattle.std.proofs.lemmas.Option.{same_Some}
use Rattle.std.proofs.lemmas.List.Elements.{All-nil, All-cons, All-map}
use Rattle.terms.specs.Forms.{IsSource}
use Rattle.terms.specs.HoldStatements.{HasShortComment}
use Rattle.terms.specs.Types.{Text, Global, Sysmod, ASysmod}
use Rattle.terms.specs.Global.{IsSysmod, ReceiveFault, AlreadyReceived, MakesLoop, WrongRole, NoRoom, Receives}
use Rattle.terms.specs.Global.{RefusedBy}
use Rattle.terms.specs.Lookups.{is_received}
use Rattle.machine.specs.Outcome.{OfKind, Status, Received, StatusLine}
use Rattle.machine.specs.Receiving.{TakesItem, sourced, receive_status}
use Rattle.sysmods.specs.declared.refused.Refused.{Refused}
use Rattle.sysmods.specs.declared.refused.Refused.TheVariants as why
use Rattle.sysmods.specs.Refused.{IsRefused}
use Rattle.report.specs.declared.outcome.ReportLine.{ReportLine}
use Rattle.report.specs.Views.{line_view}
use Rattle.smpe_global.specs.declared.global_change.GlobalChange.{GlobalChange}
use Rattle.sysmods.specs.declared.edit.GlobalEdit.{GlobalEdit}
use Rattle.sysmods.specs.declared.edit.GlobalEdit.TheVariants.{PutHold, InsertSysmod}
use Rattle.sysmods.specs.Edits.{AreSources, StatesThose, EachFits, after_edits, IsOfReceive, HasWrittenForm}
use Rattle.smpe_global.specs.Edits.{answer_of, AreEditsOf}
use Rattle.smpe_global.specs.Taken.{IsTaken}
use Rattle.smpe_global.proofs.Fitting.{fits_none, sysmod_fits, sysmod_makes}
use Rattle.smpe_global.proofs.Stating.{states_same, states_received}

-- what writes a SYSMOD and its holds
writes_receive : (s : Sysmod) (edits : List GlobalEdit) → AreEditsOf s edits → All IsOfReceive edits
writes_receive s edits (sources, names, are) = subst (All IsOfReceive) (sym are)
    (All-cons IsOfReceive (InsertSysmod s.id sources) (map (λ h. PutHold h) s.holds) tt
    (All-map IsOfReceive (λ h. PutHold h) s.holds (λ i d below. tt)))

-- Sources and comments have their forms.
writes_formed : (s : Sysmod) (edits : List GlobalEdit) → AreEditsOf s edits → All IsSource s.sources
    → All HasShortComment s.holds → All HasWrittenForm edits
writes_formed s edits (sources, names, are) form short = subst (All HasWrittenForm) (sym are)
    (All-cons HasWrittenForm (InsertSysmod s.id sources) (map (λ h. PutHold h) s.holds)
    (subst (All IsSource) (sym names) form) (All-map HasWrittenForm (λ h. PutHold h) s.holds short))

-- one more source changes no hold
same_holds : (source : Option Text) (s : Sysmod) → (sourced source s).holds ≡ s.holds
same_holds None s = refl
same_holds (Some source) s = refl

-- the fault that an error stands for is the first, and its status is told
pub refused_by : (g new : Global) (s : Sysmod) (e : Refused) (status : Status) → IsRefused g s e
    → option_map receive_status (answer_of new (Err e)) ≡ Some status
    → (fault : ReceiveFault) × RefusedBy g s fault × (status ≡ receive_status (Err fault))
refused_by g new s why.AlreadyReceived status first told =
    (AlreadyReceived, first, sym (same_Some (receive_status (Err AlreadyReceived)) status told))
refused_by g new s why.MakesLoop status first told =
    (MakesLoop, first, sym (same_Some (receive_status (Err MakesLoop)) status told))
refused_by g new s why.WrongRole status first told =
    (WrongRole, first, sym (same_Some (receive_status (Err WrongRole)) status told))
refused_by g new s why.NoRoom status first told =
    (NoRoom, first, sym (same_Some (receive_status (Err NoRoom)) status told))
refused_by g new s why.Memory status first told =
    let none : None ≡ Some status = told in absurd (cc none)

-- whose line is told
module _ (source : Option Text) (g new : Global) (s : Sysmod) (line : ReportLine) (was is : GlobalChange)
    (told : is.lines.items ≡ was.lines.items ++ line ∷ []) where
  pub sysmod_taken : (own : List GlobalEdit) → AreEditsOf (sourced source s) own
      → is.edits.items ≡ was.edits.items ++ own → IsSysmod (sourced source s)
      → All IsSource (sourced source s).sources → All HasShortComment s.holds
      → line_view line ≡ StatusLine s.id (OfKind s.kind) Received → Receives g (sourced source s) (Ok new)
      → IsTaken (TakesItem source g (ASysmod s)) g new was is
  sysmod_taken own (sources, names, are) written known form short printed came =
      let sent = sourced source s in
      let unknown = false_from_ne_true (is_received g sent.id) (came.0 AlreadyReceived) in
      record {
        own = own;
        edits_are = written;
        lines = line ∷ [];
        lines_are = told;
        prints = (Ok new, came, refl, ap (λ l. l ∷ []) printed);
        receives = writes_receive sent own (sources, names, are);
        written = writes_formed sent own (sources, names, are) form
            (subst (All HasShortComment) (sym (same_holds source s)) short);
        stays = subst (λ n. StatesThose n g) (sym came.1) (states_received g sent unknown);
        fits = λ stated states.
            subst (λ es. EachFits stated es g) (sym are) (sysmod_fits stated g sent sources unknown
            (subst AreSources (sym names) known.sources));
        after = λ stated states. ap (λ es. after_edits stated es g) are
            ∙ sysmod_makes stated g sent sources names known (subst (StatesThose stated) came.1 states) ∙ sym came.1;
      }

  pub sysmod_refused : (fault : ReceiveFault) → is.edits.items ≡ was.edits.items
      → line_view line ≡ StatusLine s.id (OfKind s.kind) (receive_status (Err fault))
      → RefusedBy g (sourced source s) fault → new ≡ g → IsTaken (TakesItem source g (ASysmod s)) g new was is
  sysmod_refused fault written printed first same = record {
    own = [];
    edits_are = written ∙ sym (append-nil was.edits.items);
    lines = line ∷ [];
    lines_are = told;
    prints = (Err fault, first, same, ap (λ l. l ∷ []) printed);
    receives = All-nil IsOfReceive;
    written = All-nil HasWrittenForm;
    stays = states_same g new (ap (λ (n : Global). n.sysmods) same);
    fits = λ stated states. fits_none stated g;
    after = λ stated states. sym same;
  }
