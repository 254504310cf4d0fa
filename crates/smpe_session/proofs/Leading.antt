-- Commands of the global zone: where they lead, and the session of that state.
use Rattle.std.proofs.Common.{◌≡◌, ◌⊎◌, ◌∙◌, List, Vec, Option, Some, Result, Bor, refl, sym, ap, subst, inl}
use Rattle.std.specs.Prelude.{IsSome}
use Rattle.std.specs.declared.alloc.Global.{Global as AnyGlobal}
use Rattle.std.specs.Str.{bytes_eq}
use Rattle.indexmap.specs.IndexMap.{get}
use Rattle.sqlite.specs.Store.{Ghosts}
use Rattle.sqlite.specs.Held.{Held}
use Rattle.terms.specs.Types.{Text, Global, Command}
use Rattle.store_schema.specs.Inventory.{IsInventory}
use Rattle.store_schema.specs.declared.error.StoreError.{StoreError}
use Rattle.machine.specs.Outcome.{Header, Line, Outcome, Refusal, Ran, Refused, header_of}
use Rattle.machine.specs.State.{State, global_name, misplaced}
use Rattle.machine.specs.Machine.{Files, Performs}
use Rattle.report.specs.declared.outcome.Outcome.{Outcome as Told}
use Rattle.report.specs.Views.{outcome_view}
use Rattle.sysmods.specs.declared.edit.GlobalEdit.{GlobalEdit}
use Rattle.sysmods.specs.Edits.{EachFits, after_edits}
use Rattle.store.specs.Changes.{Makes}
use Rattle.store.specs.declared.change.Change.{Change}
use Rattle.store.specs.declared.change.Change.TheVariants as changes
use Rattle.store.specs.CallEnds.{EndsCommit}
use Rattle.store.specs.Kept.{kept, IsHere}
use Rattle.store.specs.Own.{IsOwnOf}
use Rattle.smpe_session.specs.declared.session.Session.{Session}
use Rattle.smpe_session.specs.Sessions.{IsSessionOf, HasPerformed}
use Rattle.smpe_session.specs.Uses.{UsesStore}
use Rattle.smpe_session.proofs.Stepping.{performs_committed}

-- the change that is committed, and where it leads
pub record LeadsBy (date : Text) (files : Files) (c : Command) (s : State) (new : Global) (edits : List GlobalEdit)
    (lines : List Line) : Type 0 where
  pub fits : EachFits new edits s.global
  pub makes : kept (record s { global = new }) ≡ record (kept s) { global = after_edits new edits s.global }
  pub inventory : IsInventory (kept (record s { global = new }))
  pub performs : Performs date files s c (record s { global = new }) (Ran (header_of c s.boundary) lines)

pub leads_by : (date : Text) (files : Files) (c : Command) (s : State) (old new : Global) (edits : List GlobalEdit)
    (lines : List Line) → s.global ≡ old
    → EachFits new edits old → after_edits new edits old ≡ new → IsInventory (kept (record s { global = new }))
    → Performs date files s c (record s { global = new }) (Ran (header_of c s.boundary) lines)
    → LeadsBy date files c s new edits lines
leads_by date files c s old new edits lines global fits after inventory performs = record {
  fits = subst (EachFits new edits) (sym global) fits;
  makes = ap (λ k. record (kept s) { global = k }) (sym (ap (after_edits new edits) global ∙ after));
  inventory = inventory;
  performs = performs;
}

-- the global zone in which stands what SYSMODs state, of the change which a call commits
abbrev pub stated_in : {S X : Type 0} {g : Ghosts S} {before after : Held S} {stated : Bor Global}
    {edits : Vec GlobalEdit AnyGlobal} {Ends : State → Result X StoreError → Type 0} {r : Result X StoreError}
    → UsesStore g before after (λ own. own ≡ changes.Global stated edits) Ends r → Bor Global
stated_in {stated = stated} uses = stated

-- the header under the session's boundary
pub headed : (date : Text) (files : Files) (c : Command) (s t : State) (boundary : Option Text)
    (outcome : Header → Outcome) → boundary ≡ s.boundary
    → Performs date files s c t (outcome (header_of c s.boundary))
    → Performs date files s c t (outcome (header_of c boundary))
headed date files c s t boundary outcome same performs = subst
    (λ b. Performs date files s c t (outcome (header_of c b))) (sym same) performs

pub refused : (date : Text) (files : Files) (c : Command) (s : State) (boundary : Option Text) (why : Refusal)
    → boundary ≡ s.boundary → misplaced s c ≡ Some why
    → Performs date files s c s (Refused (header_of c boundary) why)
refused date files c s boundary why same at = headed date files c s s boundary (λ h. Refused h why) same
    (inl (why, at, refl, refl))

-- a commit of it, which is told under the session's boundary
pub led : {S : Type 0} (g : Ghosts S) (old at : Held S) (date : Text) (files : Files) (c : Command) (s : State)
    (boundary : Option Text) (before after : Session) (edits : List GlobalEdit) (lines : List Line) (answer : Told)
    → boundary ≡ s.boundary → IsSessionOf s before → after.zones ≡ before.zones → after.boundary ≡ before.boundary
    → LeadsBy date files c s after.global edits lines → (change : Change) → IsOwnOf c change → IsHere s change
    → Makes change (kept s) (kept (record s { global = after.global })) → (r : Result Told StoreError)
    → EndsCommit g old at s (record s { global = after.global }) change answer r
    → outcome_view answer ≡ Ran (header_of c boundary) lines → HasPerformed g old at s after date files c r
led g old at date files c s boundary before after edits lines answer named is zones same leads change own here makes
    r ended view =
    let t = record s { global = after.global } in
    performs_committed g old at s date files c t answer
    (subst (Performs date files s c t) (sym view)
    (headed date files c s t boundary (λ h. Ran h lines) named leads.performs)) change own here makes after
    record {
      global = refl;
      boundary = same ∙ is.boundary;
      zones = λ q z found. is.zones q z (sym (ap (λ m. get bytes_eq m q) zones) ∙ found);
      current = λ q bound. subst (λ m. (q ≡ global_name) ⊎ IsSome (get bytes_eq m q)) (sym zones)
          (is.current q bound);
    } r ended
