-- How a definition ends, and how it went.
use Rattle.std.proofs.Common.{◌≡◌, ◌∙◌, false, Result, Ok, Err, IsErrAnd, OnOk, refl, sym, ap, subst, true≢false}
use Rattle.std.proofs.lemmas.Result.{err_from_is_err_and}
use Rattle.sqlite.specs.Store.{Ghosts}
use Rattle.sqlite.specs.Held.{Held}
use Rattle.machine.specs.State.{State, ZoneDefinition}
use Rattle.machine.specs.Machine.{Define}
use Rattle.store_schema.specs.declared.error.StoreError.{StoreError}
use Rattle.store_schema.specs.declared.error.StoreError.TheVariants.{Fault, OtherSchema, NoState, Memory}
use Rattle.store.specs.Going.{GoesOver, CommitsOnce}
use Rattle.store.specs.declared.change.Change.{Change}
use Rattle.store.specs.declared.change.Change.TheVariants.{NewZone}
use Rattle.store.proofs.Going.{goes_err}
use Rattle.store.specs.CallEnds.{GoesCall, FailsAct}
use Rattle.smpe_jobs.specs.declared.zone_error.ZoneError.{ZoneError}
use Rattle.smpe_jobs.specs.declared.zone_error.ZoneError.TheVariants.{Store}
use Rattle.smpe_jobs.specs.ZoneDefinitions.{GoesDefine, EndsDefine, is_refused, zone_error}
use Rattle.store.specs.Own.{IsOwn}

-- The call of the store failed.
pub defined_failed : {S U : Type 0} (g : Ghosts S) (old at : Held S) (s : State) (d : ZoneDefinition) (e : StoreError)
    (r : Result U ZoneError) → IsErrAnd r (λ y. y ≡ zone_error e) → FailsAct g old at s (Define d) e
    → EndsDefine g old at s d r
defined_failed {S = S} {U = U} g old at s d e r is failed =
    let p = err_from_is_err_and r is in
    subst (EndsDefine g old at s d) (sym (p.1 ∙ ap (λ y. Err y) p.2)) (by e failed)
  where
    by : (e : StoreError) → FailsAct g old at s (Define d) e
        → EndsDefine {S = S} g old at s d {U = U} (Err (zone_error e))
    by Fault failed = failed
    by OtherSchema failed = failed
    by NoState failed = failed
    by Memory failed = failed

-- of the store's errors NoState alone is told so
no_state : {U : Type 0} (r : Result U ZoneError) (e : StoreError) → r ≡ Err (zone_error e)
    → r ≡ Err (Store NoState) → e ≡ NoState
no_state r Fault is bad = absurd (cc (is, bad))
no_state r OtherSchema is bad = absurd (cc (is, bad))
no_state r NoState is bad = refl
no_state r Memory is bad = absurd (cc (is, bad))

other_schema : {U : Type 0} (r : Result U ZoneError) (e : StoreError) → r ≡ Err (zone_error e)
    → r ≡ Err (Store OtherSchema) → e ≡ OtherSchema
other_schema r Fault is bad = absurd (cc (is, bad))
other_schema r OtherSchema is bad = refl
other_schema r NoState is bad = absurd (cc (is, bad))
other_schema r Memory is bad = absurd (cc (is, bad))

not_refused : (U : Type 0) (e : StoreError) → is_refused {U = U} (Err (zone_error e)) ≡ false
not_refused U Fault = refl
not_refused U OtherSchema = refl
not_refused U NoState = refl
not_refused U Memory = refl

-- how a definition went that met an error of the store
pub goes_failed : {S U X : Type 0} (g : Ghosts S) (old new : Held S) (d : ZoneDefinition) (IsMine : Change → Type 0)
    (e : StoreError) (r : Result U ZoneError) → IsErrAnd r (λ y. y ≡ zone_error e)
    → ((change : Change) → IsMine change → IsOwn (Define d) change)
    → GoesCall {X = X} g old new IsMine NoState OtherSchema (Err e) → GoesDefine g old new d r
goes_failed {U = U} g old new d IsMine e r is own call =
    let p = err_from_is_err_and r is in
    let told : r ≡ Err (zone_error e) = p.1 ∙ ap (λ y. Err y) p.2 in
    record {
      call = record {
        follows = call.follows;
        over = subst (GoesOver g old new (IsOwn (Define d))) (sym told)
            (goes_err g old new IsMine (IsOwn (Define d)) e (zone_error e) own call.over);
        none = λ clean bad. call.none clean (ap (λ y. Err y) (no_state r e told bad));
        which = λ bad. call.which (ap (λ y. Err y) (other_schema r e told bad));
      };
      done = subst (λ q. OnOk q (CommitsOnce g old new (NewZone d.name d.kind d.srel d.related) q)) (sym told) tt;
      refused = λ refused. absurd (true≢false (sym refused ∙ ap is_refused told ∙ not_refused U e));
    }
