-- How an act of a session ends by what it asks of the store.
use Rattle.std.proofs.Common.{◌≡◌, [], ◌∷◌, Result, Ok, Err, refl, sym, subst}
use Rattle.sqlite.specs.Store.{Ghosts}
use Rattle.sqlite.specs.Held.{Held}
use Rattle.store_schema.specs.declared.error.StoreError.{StoreError}
use Rattle.machine.specs.State.{State}
use Rattle.machine.specs.Machine.{Files, Act, Perform, Performs, Steps}
use Rattle.report.specs.declared.outcome.Outcome.{Outcome}
use Rattle.report.specs.Views.{outcome_view}
use Rattle.terms.specs.Types.{Text, Command}
use Rattle.store.specs.declared.change.Change.{Change}
use Rattle.store.specs.Changes.{Makes}
use Rattle.store.specs.CallEnds.{Follows, StillKeeps, FailsCall, EndsCommit}
use Rattle.store.specs.Kept.{kept, Keeps, IsAfter, IsHere, LeadsOn}
use Rattle.store.specs.Own.{IsOwnOf}
use Rattle.store.proofs.Keeping.{still_kept, failed_more, failed_since, ended_since}
use Rattle.store.proofs.GoingCalls.{is_later}
use Rattle.smpe_session.specs.declared.session.Session.{Session}
use Rattle.smpe_session.specs.Sessions.{IsSessionOf, HasPerformed}

-- want of memory before the store is asked
pub stopped : {S : Type 0} (g : Ghosts S) (at : Held S) (s : State) (a : Act) → Keeps g at s
    → StillKeeps g at s (IsAfter s a)
stopped g at s a keeps = still_kept g at s (IsAfter s a) keeps

-- the commit of what a command leads to, which is told so
module _ {S : Type 0} (g : Ghosts S) (old at : Held S) (s : State) (date : Text) (files : Files) (c : Command)
    (t : State) (answer : Outcome) (performs : Performs date files s c t (outcome_view answer)) (change : Change)
    (own : IsOwnOf c change) (here : IsHere s change) (makes : Makes change (kept s) (kept t)) (session : Session) where
  steps : Steps s (Perform date files c) t (outcome_view answer ∷ [])
  steps = (outcome_view answer, performs, refl)

  leads_on : LeadsOn s (Perform date files c) change
  leads_on = (own, here, (t, outcome_view answer ∷ [], steps, makes))

  pub performs_failed : (e : StoreError) → EndsCommit g old at s t change answer (Err e)
      → HasPerformed g old at s session date files c (Err e)
  performs_failed e failed =
      failed_more g old at s (λ k. k ≡ kept t) (IsAfter s (Perform date files c)) (λ made. made ≡ change)
      (LeadsOn s (Perform date files c)) (λ k same. (t, outcome_view answer ∷ [], steps, same))
      (λ made is. subst (LeadsOn s (Perform date files c)) (sym is) leads_on) e failed

  pub performs_committed : IsSessionOf t session → (r : Result Outcome StoreError)
      → EndsCommit g old at s t change answer r → HasPerformed g old at s session date files c r
  performs_committed is (Ok outcome) done =
      (t, subst (λ o. Performs date files s c t (outcome_view o)) (sym done.0) performs, is, done.1)
  performs_committed is (Err e) failed = performs_failed e failed

-- a call that is behind others of one that began at `old`
module _ {S : Type 0} (g : Ghosts S) (old mid at : Held S) (s : State) (follows : Follows g old mid) where
  pub unmoved_since : (e : StoreError) → FailsCall g mid at s (λ _. ⊥) (λ _. ⊥) e
      → FailsCall g old at s (λ _. ⊥) (λ _. ⊥) e
  unmoved_since e failed = failed_since g old mid at s (is_later g old mid follows) (λ _. ⊥) (λ _. ⊥) e failed

  pub performs_since : (session : Session) (date : Text) (files : Files) (c : Command) (r : Result Outcome StoreError)
      → HasPerformed g mid at s session date files c r → HasPerformed g old at s session date files c r
  performs_since session date files c r performed =
      ended_since g old mid at s (is_later g old mid follows) (IsAfter s (Perform date files c))
      (LeadsOn s (Perform date files c))
      (λ outcome. (t : State) × Performs date files s c t (outcome_view outcome) × IsSessionOf t session × Keeps g at t)
      r performed
