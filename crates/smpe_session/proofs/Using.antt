-- Calls over the store one after the other, and what becomes of their results.
use Rattle.std.proofs.Common.{Option, ◌≡◌, ◌⊎◌, ◌∙◌, Result, Ok, Err, sym, ap, subst}
use Rattle.std.specs.Prelude.{IfOk, IfErr, IsErrAnd, IsErrOf, OnOk, OnErr}
use Rattle.std.proofs.lemmas.Result.{err_from_is_err_and}
use Rattle.sqlite.specs.Store.{Ghosts}
use Rattle.sqlite.specs.Tree.{Trees}
use Rattle.sqlite.specs.Held.{Held, state}
use Rattle.sqlite.specs.State.{HasCleanDisk}
use Rattle.terms.specs.Types.{Text, Command}
use Rattle.machine.specs.State.{State}
use Rattle.machine.specs.Machine.{Files}
use Rattle.report.specs.declared.outcome.Outcome.{Outcome}
use Rattle.store.specs.Calls.{calls_of}
use Rattle.store.specs.Causes.{HasCause}
use Rattle.store.specs.Changes.{Makes}
use Rattle.store.specs.Commits.{OnlyCommits}
use Rattle.store.specs.declared.change.Change.{Change}
use Rattle.store.specs.Loads.{Loads}
use Rattle.store.specs.View.{Tables, TablesIfOpen, MayLeave, Leaves}
use Rattle.store_schema.specs.Inventory.{Inventory, IsInventory}
use Rattle.store_schema.specs.Stands.{StandsFor}
use Rattle.store_schema.specs.Tables.{store_schema}
use Rattle.store_schema.specs.declared.error.StoreError.{StoreError}
use Rattle.store_schema.specs.declared.error.StoreError.TheVariants.{Fault, Memory}
use Rattle.store.specs.CallEnds.{EndsLoad, EndsCommit}
use Rattle.store.specs.Kept.{kept, Keeps}
use Rattle.store.proofs.Keeping.{inventory_kept, loaded, committed}
use Rattle.store.proofs.GoingCalls.{call_load, call_commit, call_own, call_ok, call_err, call_short, call_none}
use Rattle.store.proofs.GoingCalls.{call_after}
use Rattle.smpe_session.specs.declared.session.Session.{Session}
use Rattle.smpe_session.specs.declared.session.Performed.{Performed}
use Rattle.smpe_session.specs.Sessions.{IsSessionOf, HasPerformed, HasDone, told}
use Rattle.smpe_session.specs.Uses.{UsesStore}
use Rattle.smpe_session.specs.Writing.{TellsRun, AnswersAt, AnswersOf, AnswersRun}

-- how calls end
abbrev pub Ending : Type 0 → Type 1
Ending X = State → Result X StoreError → Type 0

module _ {S : Type 0} {g : Ghosts S} {old new : Held S} where
  -- where the tables stood for a state, it is an inventory
  ends_so : {X Y : Type 0} {IsMine : Change → Type 0} {P : Ending X} {r : Result X StoreError} (Q : Ending Y)
      (q : Result Y StoreError) → UsesStore g old new IsMine P r
      → ((s : State) → IsInventory (kept s) → P s r → Q s q)
      → HasCleanDisk (state g new) → (s : State) → Keeps g old s → Q s q
  ends_so Q q call ends clean s keeps =
      ends s (inventory_kept g old s keeps (call.goes.follows.clean clean)) (call.ends clean s keeps)

  -- the same result, of which less is said, with changes that are others too
  pub weaker : {X : Type 0} {IsOwn More : Change → Type 0} {P Q : Ending X} {r : Result X StoreError}
      → UsesStore g old new IsOwn P r → ((change : Change) → IsOwn change → More change)
      → ((s : State) → IsInventory (kept s) → P s r → Q s r) → UsesStore g old new More Q r
  weaker {IsOwn = IsOwn} {More = More} {Q = Q} {r = r} call more ends = record {
    goes = call_own g old new IsOwn More more r call.goes;
    ends = ends_so Q r call ends;
  }

  -- something else is answered
  pub answered : {X Y : Type 0} {IsOwn More : Change → Type 0} {P : Ending X} {Q : Ending Y} {x : X} {y : Y}
      → UsesStore g old new IsOwn P (Ok x) → ((change : Change) → IsOwn change → More change)
      → ((s : State) → IsInventory (kept s) → P s (Ok x) → Q s (Ok y)) → UsesStore g old new More Q (Ok y)
  answered {IsOwn = IsOwn} {More = More} {Q = Q} {x = x} {y = y} call more ends = record {
    goes = call_ok g old new IsOwn More more x y call.goes;
    ends = ends_so Q (Ok y) call ends;
  }

  failed : {X Y : Type 0} {IsOwn More : Change → Type 0} {P : Ending X} {Q : Ending Y} {e : StoreError}
      → UsesStore g old new IsOwn P (Err e) → ((change : Change) → IsOwn change → More change)
      → ((s : State) → IsInventory (kept s) → P s (Err e) → Q s (Err e)) → UsesStore g old new More Q (Err e)
  failed {X = X} {Y = Y} {IsOwn = IsOwn} {More = More} {Q = Q} {e = e} call more ends = record {
    goes = call_err g old new IsOwn More more X Y e call.goes;
    ends = ends_so Q (Err e) call ends;
  }

  -- an error is handed on
  pub handed : {X Y : Type 0} {IsOwn More : Change → Type 0} {P : Ending X} {Q : Ending Y} {e : StoreError}
      {r : Result Y StoreError} → IsErrAnd r (λ y. y ≡ e) → UsesStore g old new IsOwn P (Err e)
      → ((change : Change) → IsOwn change → More change)
      → ((s : State) → IsInventory (kept s) → P s (Err e) → Q s (Err e)) → UsesStore g old new More Q r
  handed {More = More} {Q = Q} {r = r} is call more ends = let p = err_from_is_err_and r is
      in subst (λ q. UsesStore g old new More Q q) (sym (p.1 ∙ ap Err p.2)) (failed call more ends)

  -- one of a load
  pub handed_on : {X Y : Type 0} {More : Change → Type 0} {P : Ending X} {Q : Ending Y} {e : StoreError}
      {r : Result Y StoreError} → IsErrAnd r (λ y. y ≡ e) → UsesStore g old new (λ _. ⊥) P (Err e)
      → ((s : State) → IsInventory (kept s) → P s (Err e) → Q s (Err e)) → UsesStore g old new More Q r
  handed_on is call ends = handed is call (λ change none. absurd none) ends

  pub short : {X Y : Type 0} {More : Change → Type 0} {P : Ending X} {Q : Ending Y} {x : X}
      → UsesStore g old new (λ _. ⊥) P (Ok x)
      → ((s : State) → IsInventory (kept s) → P s (Ok x) → Q s (Err Memory)) → UsesStore g old new More Q (Err Memory)
  short {Y = Y} {More = More} {Q = Q} {x = x} call ends = record {
    goes = call_short g old new Y More x call.goes;
    ends = ends_so Q (Err Memory) call ends;
  }

  -- memory runs out behind loads
  pub ran_short : {X Y : Type 0} {More : Change → Type 0} {P : Ending X} {Q : Ending Y} {x : X}
      {r : Result Y StoreError} → IsErrAnd r (λ y. y ≡ Memory) → UsesStore g old new (λ _. ⊥) P (Ok x)
      → ((s : State) → IsInventory (kept s) → P s (Ok x) → Q s (Err Memory)) → UsesStore g old new More Q r
  ran_short {More = More} {Q = Q} {r = r} is call ends = let p = err_from_is_err_and r is
      in subst (λ q. UsesStore g old new More Q q) (sym (p.1 ∙ ap Err p.2)) (short call ends)

  -- a load
  pub load_uses : {X : Type 0} {Found : Inventory → X → Type 0} {r : Result X StoreError} → Loads g old new Found r
      → UsesStore g old new (λ _. ⊥) (λ s ended. EndsLoad g old new s (Found (kept s)) ended) r
  load_uses {Found = Found} {r = r} loads = record {
    goes = call_load g old new Found r loads;
    ends = λ clean s keeps. loaded g old new s Found r clean loads keeps;
  }

  module _ {IsMine IsOwn : Change → Type 0} {P : Ending Outcome} {at session : Session} (date : Text) (files : Files)
      {c : Command} where
    tells : (r : Result Outcome StoreError) → UsesStore g old new IsMine P r
        → ((change : Change) → IsMine change → IsOwn change × IfOk r (TellsRun change))
        → ((s : State) → P s r → IsSessionOf s at → HasPerformed g old new s session date files c r)
        → UsesStore g old new (λ change. IsOwn change × IfOk (told r) (AnswersRun change))
        (λ s ended. IsSessionOf s at → HasDone g old new s session date files c ended) (told r)
    tells (Ok outcome) call more ends = answered call more (λ s inventory p is. ends s p is)
    tells (Err e) call more ends = failed call more (λ s inventory p is. ends s p is)

    -- what a command comes to is told
    pub told_uses : {r : Result Outcome StoreError} {told_so : Result Performed StoreError} → told_so ≡ told r
        → UsesStore g old new IsMine P r → ((change : Change) → IsMine change → IsOwn change × IfOk r (TellsRun change))
        → ((s : State) → P s r → IsSessionOf s at → HasPerformed g old new s session date files c r)
        → UsesStore g old new (λ change. IsOwn change × IfOk told_so (AnswersRun change))
        (λ s ended. IsSessionOf s at → HasDone g old new s session date files c ended) told_so
    told_uses {r = r} is call more ends = subst
        (λ q. UsesStore g old new (λ change. IsOwn change × IfOk q (AnswersRun change))
        (λ s ended. IsSessionOf s at → HasDone g old new s session date files c ended) q) (sym is)
        (tells r call more ends)

-- An error has no answer.
pub no_answer : {X E : Type 0} (r : Result X E) (P : E → Type 0) (Q : X → Type 0) → IsErrAnd r P → IfOk r Q
no_answer (Ok x) P Q is = absurd is
no_answer (Err e) P Q is = tt

-- The outcome of a command is told.
pub told_of : (c : Command) (old new : Option Text) (r : Result Outcome StoreError)
    (told_so : Result Performed StoreError) → told_so ≡ told r → IfOk r (AnswersAt c old new)
    → IfOk told_so (AnswersOf c old new)
told_of c old new (Ok outcome) told_so is of = subst (λ q. IfOk q (AnswersOf c old new)) (sym is) of
told_of c old new (Err e) told_so is of = subst (λ q. IfOk q (AnswersOf c old new)) (sym is) tt

-- a commit
pub commit_uses : {S : Type 0} (g : Ghosts S) (old new : Held S) (change : Change) (r : Result (Unit {0}) StoreError)
    → (HasCleanDisk (state g new) → HasCleanDisk (state g old)) → OnlyCommits g (calls_of change) old new r
    → OnOk r ((i j : Inventory) → Makes change i j → IsInventory j → Tables g old i → Tables g new j)
    → OnOk r ((i j : Inventory) → Makes change i j → IsInventory j → Tables g old i → Leaves g new (λ c. c ≡ j))
    → OnErr r ((i : Inventory) → Tables g old i → TablesIfOpen g new i)
    → ((i j : Inventory) → Makes change i j → IsInventory j → Tables g old i → (db : Trees) → MayLeave g new db
    → MayLeave g old db ⊎ StandsFor j (record { schema = store_schema; trees = db }))
    → IfErr r (λ e. (e ≡ Fault) ⊎ (e ≡ Memory))
    → (HasCleanDisk (state g new) → IsErrOf r Fault → (i : Inventory) → Tables g old i
    → HasCause g old new i (λ own. own ≡ change))
    → UsesStore g old new (λ own. own ≡ change) (λ s ended. (t : State) → Makes change (kept s) (kept t)
    → IsInventory (kept t) → EndsCommit g old new s t change tt ended) r
commit_uses g old new change r was only ok durable err crash which before = record {
  goes = call_commit g old new change r was only which;
  ends = λ clean s keeps t makes is. committed g old new s change t keeps makes is r ok durable err crash which
      (λ failed. before clean failed (kept s) keeps.now);
}

module _ {S : Type 0} {g : Ghosts S} where
  -- no call at all
  pub nothing : {at : Held S} → UsesStore {X = Unit {0}} g at at (λ _. ⊥) (λ s ended. Keeps g at s) (Ok tt)
  nothing {at = at} = record { goes = call_none g at; ends = λ clean s keeps. keeps }

  -- a call behind one that has only loaded
  pub after : {X Y : Type 0} {IsOwn : Change → Type 0} {P : Ending X} {Q : Ending Y} {a b c : Held S} {x : X}
      {r : Result Y StoreError} → UsesStore g a b (λ _. ⊥) P (Ok x) → UsesStore g b c IsOwn Q r
      → UsesStore g a c IsOwn (λ s ended. P s (Ok x) × (Keeps g b s → Q s ended)) r
  after {IsOwn = IsOwn} {a = a} {b = b} {c = c} {x = x} {r = r} one two = record {
    goes = call_after g a b c IsOwn x r one.goes two.goes;
    ends = λ clean s keeps. (one.ends (two.goes.follows.clean clean) s keeps, two.ends clean s);
  }
