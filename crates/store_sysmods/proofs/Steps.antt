-- Calls one after the other: the statements that they run, and what the tables hold then.
use Rattle.std.proofs.Common.{◌≡◌, ℕ, List, [], ◌∷◌, ◌++◌, Result, Ok, Err, IsErrAnd, OnOk, sym, subst}
use Rattle.std.specs.List.{AllByRecursion}
use Rattle.sqlite.specs.Store.{Ghosts}
use Rattle.sqlite.specs.Order.{Row}
use Rattle.sqlite.specs.Table.{Table}
use Rattle.sqlite.specs.declared.error.Error.{Error}
use Rattle.sqlite.specs.declared.transaction.Transaction.{Transaction}
use Rattle.terms.specs.Types.{Id}
use Rattle.store_rows.specs.Inside.{Continues, Turns}
use Rattle.store_rows.specs.Calls.{Call, RunsInside, puts}
use Rattle.store_rows.specs.Rows.{Contents, HasContents, in_table, with_row, with_rows, without}
use Rattle.store_rows.specs.Texts.{SuitColumns}
use Rattle.store_rows.proofs.InsideLemmas.{on_ok, continues_then, turns_then}
use Rattle.store_schema.specs.Tables.{store_schema}
use Rattle.store_sysmods.specs.Steps.{RunsCalls, Puts}
use Rattle.store_sysmods.specs.Sysmods.{sysmod_key}
use Rattle.store_sysmods.proofs.Calling.{runs_rest, runs_stops}

-- what is so of each of these, where there was no error
pub each_ok : {X E A : Type 0} (r : Result X E) (P Q : A → Type 0) → ((x : A) → P x → OnOk r (Q x))
    → OnOk r ((x : A) → P x → Q x)
each_ok (Ok y) P Q each = each
each_ok (Err e) P Q each = tt

module _ {S : Type 0} (g : Ghosts S) where
  -- statements that ran
  abbrev pub Ran : List Call → (Contents → Contents) → Transaction S → Transaction S → Type 0
  Ran calls make a b = RunsCalls g calls make a b (Ok (tt {0}))

  pub step_ok : {calls : List Call} {make : Contents → Contents} {a b : Transaction S} {q : Result (Unit {0}) Error}
      {x : Unit {0}} → q ≡ Ok x → RunsCalls g calls make a b q → Ran calls make a b
  step_ok {calls = calls} {make = make} {a = a} {b = b} is step = subst (RunsCalls g calls make a b) is step

  pub step_then : {X : Type 0} {xs ys : List Call} {make last : Contents → Contents} {a b c : Transaction S}
      {r : Result X Error} → Ran xs make a b → RunsCalls g ys last b c r
      → RunsCalls g (xs ++ ys) (λ h. last (make h)) a c r
  step_then {xs = xs} {ys = ys} {make = make} {last = last} {a = a} {b = b} {c = c} {r = r} one two = record {
    continues = continues_then g a b c one.continues two.continues;
    runs = runs_rest g xs ys a.conn.now b.conn.now c.conn.now r one.continues.inside two.continues.inside one.runs
        two.runs;
    ok = on_ok r _ _ (turns_then g a.conn.now b.conn.now c.conn.now (HasContents store_schema) make last
        two.continues.inside one.ok) two.ok;
  }

  none_turns : {X : Type 0} (r : Result X Error) (e : Error) (P : Type 0) → IsErrAnd r (λ z. z ≡ e) → OnOk r P
  none_turns (Ok x) e P told = absurd told
  none_turns (Err z) e P told = tt

  -- one of these failed, and none behind it was begun
  pub step_stops : {X Y : Type 0} {xs : List Call} (ys : List Call) {make : Contents → Contents} {a b : Transaction S}
      {q : Result X Error} {e : Error} (r : Result Y Error) → q ≡ Err e → IsErrAnd r (λ z. z ≡ e)
      → RunsCalls g xs make a b q → RunsCalls g (xs ++ ys) make a b r
  step_stops {xs = xs} ys {a = a} {b = b} {q = q} {e = e} r failed told first = record {
    continues = first.continues;
    runs = runs_stops g xs ys a.conn.now b.conn.now q e r failed told first.runs;
    ok = none_turns r e _ told;
  }

  -- an error says nothing of what the tables hold
  pub step_errs : {X Y : Type 0} {calls : List Call} {make last : Contents → Contents} {a b : Transaction S}
      {q : Result X Error} {e : Error} {r : Result Y Error} → q ≡ Err e → IsErrAnd r (λ z. z ≡ e)
      → RunsCalls g calls make a b r → RunsCalls g calls last a b r
  step_errs {e = e} {r = r} failed told step = record {
    continues = step.continues;
    runs = step.runs;
    ok = none_turns r e _ told;
  }

  -- a SYSMOD's rows that are taken out of one table
  pub step_takes : {X : Type 0} (text : List ℕ) (table : Table) (key : Row) (id : Id) (a b : Transaction S)
      (r : Result X Error) → key ≡ sysmod_key id → Continues g a b
      → RunsInside g ((text, key) ∷ []) a.conn.now b.conn.now r
      → OnOk r (Turns g a.conn.now b.conn.now (HasContents store_schema) (in_table table (without key)))
      → RunsCalls g ((text, sysmod_key id) ∷ []) (in_table table (without (sysmod_key id))) a b r
  step_takes text table key id a b r is kept runs ok =
      subst (λ k. RunsCalls g ((text, k) ∷ []) (in_table table (without k)) a b r) is
      (record { continues = kept; runs = runs; ok = ok })

  pub step_takes_of : {X : Type 0} (text : List ℕ) (table : Table) {x id : Id} {a b : Transaction S}
      {r : Result X Error} → x ≡ id → RunsCalls g ((text, sysmod_key x) ∷ [])
      (in_table table (without (sysmod_key x))) a b r
      → RunsCalls g ((text, sysmod_key id) ∷ []) (in_table table (without (sysmod_key id))) a b r
  step_takes_of text table {a = a} {b = b} {r = r} is step =
      subst (λ y. RunsCalls g ((text, sysmod_key y) ∷ []) (in_table table (without (sysmod_key y))) a b r) is step

  -- ---- rows that are put into one table

  -- the bound values are a row of the table
  pub step_row : {X : Type 0} (text : List ℕ) (table : Table) {row r : Row} {a b : Transaction S} {q : Result X Error}
      → r ≡ row → SuitColumns table.columns row → Continues g a b
      → RunsInside g ((text, r) ∷ []) a.conn.now b.conn.now q
      → OnOk q (SuitColumns table.columns r
      → Turns g a.conn.now b.conn.now (HasContents store_schema) (in_table table (with_row r)))
      → RunsCalls g ((text, row) ∷ []) (in_table table (with_row row)) a b q
  step_row text table {r = r} {a = a} {b = b} {q = q} is suits kept runs ok =
      subst (λ x. RunsCalls g ((text, x) ∷ []) (in_table table (with_row x)) a b q) is (record {
        continues = kept;
        runs = runs;
        ok = on_ok q _ _ (λ turned. turned (subst (SuitColumns table.columns) (sym is) suits)) ok;
      })

  -- and so are many
  pub puts_rows : {X : Type 0} (some one : List ℕ) (table : Table) {rows rs : List Row} {a b : Transaction S}
      {q : Result X Error} → rs ≡ rows → AllByRecursion (SuitColumns table.columns) rows → Continues g a b
      → RunsInside g (puts some one rs) a.conn.now b.conn.now q
      → OnOk q (AllByRecursion (SuitColumns table.columns) rs
      → Turns g a.conn.now b.conn.now (HasContents store_schema) (in_table table (with_rows rs)))
      → Puts g some one table rows a b q
  puts_rows some one table {rs = rs} {a = a} {b = b} {q = q} is suits kept runs ok =
      subst (λ l. Puts g some one table l a b q) is (record {
        continues = kept;
        runs = runs;
        ok = on_ok q _ _ (λ turned. turned (subst (AllByRecursion (SuitColumns table.columns)) (sym is) suits)) ok;
      })
