-- INSERTs one after the other: of as many rows at a time as go into one statement, and of one row at a time.
use Rattle.std.proofs.Common.{◌≡◌, ℕ, suc, ◌+◌, ◌*◌, ◌/◌, ◌<◌, List, [], ◌∷◌, ◌++◌, map, length, drop, append-nil}
use Rattle.std.proofs.Common.{Result, Ok, Err, IsErr, IsErrAnd, OnOk, arith, refl, sym, ap, ap₂, subst, subst₂, ◌∙◌}
use Rattle.std.specs.List.{AllByRecursion}
use Rattle.std.proofs.lemmas.List.{take_at, drop_at, length-append, length-map, map-append}
use Rattle.std.proofs.Math.Seq.{drop-append-add}
use Rattle.sqlite.specs.Store.{Ghosts}
use Rattle.sqlite.specs.Order.{Row}
use Rattle.sqlite.specs.Schema.{Schema}
use Rattle.sqlite.specs.Table.{Table}
use Rattle.sqlite.specs.declared.error.Error.{Error}
use Rattle.sqlite.specs.declared.transaction.Transaction.{Transaction}
use Rattle.terms.proofs.Each.{recursion_front, recursion_back}
use Rattle.store_rows.specs.Calls.{Call, RunsInside, many, runs, columns_of, puts}
use Rattle.store_rows.specs.Inside.{Continues}
use Rattle.store_rows.specs.Rows.{as_bound}
use Rattle.store_rows.specs.Texts.{SuitColumns, PutsIn}
use Rattle.store_rows.proofs.Adding.{Adds, adds_none, adds_then}
use Rattle.store_rows.proofs.CallLemmas.{follows_err, runs_then, runs_err}
use Rattle.store_rows.proofs.InsideLemmas.{on_ok, continues, continues_then}

-- ---- the statements

-- a row at a time
abbrev pub singles : List ℕ → List Row → List Call
singles one = map (λ row. (one, row))

pub singles_run : (one : List ℕ) (run more : List Row) → length run ≡ 1
    → singles one (run ++ more) ≡ (one, columns_of run) ∷ singles one more
singles_run one [] more long = absurd cc
singles_run one (row ∷ []) more long = ap (λ (cells : Row). (one, cells) ∷ singles one more) (sym (append-nil row))
singles_run one (row ∷ r ∷ run) more long = absurd (omega (arith, long))

module _ (some one : List ℕ) where
  -- a whole run comes first
  pub puts_run : (run more : List Row) → length run ≡ many
      → puts some one (run ++ more) ≡ (some, columns_of run) ∷ puts some one more
  puts_run run more long =
      let n = length more / many in
      let all = run ++ more in
      let runs_of = λ (rows : List (List Row)). map {B = Call} (λ r. (some, columns_of r)) rows in
      let count : length all / many ≡ suc n = omega (arith, long, length-append run more) in
      let left : drop (suc n * many) all ≡ drop (n * many) more =
      ap (λ k. drop k all) (omega (arith, long)) ∙ drop-append-add run more (n * many) in
      ap (λ k. runs_of (runs k all) ++ singles one (drop (k * many) all)) count
      ∙ ap₂ (λ (first : List Row) (rest : List Row). (some, columns_of first) ∷ runs_of (runs n rest)
      ++ singles one (drop (suc n * many) all)) (take_at run more many long) (drop_at run more many long)
      ∙ ap (λ rest. (some, columns_of run) ∷ runs_of (runs n more) ++ singles one rest) left

  -- no whole run is left
  pub puts_few : (rows : List Row) → length rows < many → puts some one rows ≡ singles one rows
  puts_few rows few =
      let none : length rows / many ≡ 0 = omega (arith, few) in
      ap (λ k. map {B = Call} (λ r. (some, columns_of r)) (runs k rows) ++ singles one (drop (k * many) rows)) none

-- ---- what they do

module _ {S : Type 0} (g : Ghosts S) (some one : List ℕ) where
  -- The statements ran, and the table that the texts name holds these rows too; or one of them failed, or memory was
  -- short. Nothing is committed.
  pub record Added {X : Type 0} (calls : List Call) (rows : List Row) (old new : Transaction S)
      (result : Result X Error) : Type 0 where
    pub continues : Continues g old new
    pub runs : RunsInside g calls old.conn.now new.conn.now result
    pub ok : OnOk result ((schema : Schema) (at : ℕ) (table : Table)
        → PutsIn schema at table many some → PutsIn schema at table 1 one
        → AllByRecursion (SuitColumns table.columns) rows → Adds g schema table rows old.conn.now new.conn.now)

  pub added_none : (old : Transaction S) → Added {X = Unit {0}} [] [] old old (Ok (tt {0}))
  added_none old = record {
    continues = continues g old;
    runs = λ clean inside. (refl, inside);
    ok = λ schema at table whole single kept. adds_none g schema table old.conn.now;
  }

  pub added_then : {X Y : Type 0} {xs ys : List Call} {news more : List Row} {a b c : Transaction S}
      (q : Result X Error) (x : X) (r : Result Y Error) → q ≡ Ok x → Added xs news a b q → Added ys more b c r
      → Added (xs ++ ys) (news ++ more) a c r
  added_then {xs = xs} {ys = ys} {news = news} {more = more} {a = a} {b = b} {c = c} (Err e) x r is first next =
      absurd cc
  added_then {xs = xs} {ys = ys} {news = news} {more = more} {a = a} {b = b} {c = c} (Ok w) x r is first next = record {
    continues = continues_then g a b c first.continues next.continues;
    runs = runs_then g xs ys a.conn.now b.conn.now c.conn.now (Ok w) x r first.continues.inside next.continues.inside is
        first.runs next.runs;
    ok = on_ok r _ _ (λ turns schema at table whole single kept.
        adds_then g schema table a.conn.now b.conn.now c.conn.now news more next.continues.inside
        (first.ok schema at table whole single (recursion_front _ news more kept))
        (turns schema at table whole single (recursion_back _ news more kept))) next.ok;
  }

  no_rows : {X : Type 0} (r : Result X Error) (e : Error) (P : Type 0) → IsErrAnd r (λ z. z ≡ e) → OnOk r P
  no_rows (Ok x) e P told = absurd told
  no_rows (Err z) e P told = tt

  -- one of the first failed, and none behind it was begun
  pub added_stops : {X Y : Type 0} {xs : List Call} {news : List Row} {a b : Transaction S} (ys : List Call)
      (all : List Row) (q : Result X Error) (e : Error) (r : Result Y Error) → q ≡ Err e → IsErrAnd r (λ z. z ≡ e)
      → Added xs news a b q → Added (xs ++ ys) all a b r
  added_stops {xs = xs} {a = a} {b = b} ys all q e r is told first = record {
    continues = first.continues;
    runs = runs_err g xs ys a.conn.now b.conn.now q r (subst IsErr (sym is) refl) (follows_err q e r is told)
        first.runs;
    ok = no_rows r e _ told;
  }

  -- ---- in a loop

  -- What becomes of the rows that are left, becomes of all.
  abbrev pub Leaves : List Call → List Row → Transaction S → List Call → List Row → Transaction S → Type 0
  Leaves calls rows old rest left now =
      (new : Transaction S) (r : Result (Unit {0}) Error) → Added rest left now new r → Added calls rows old new r

  -- what a call in the loop leads to
  pub record GoesOn {X : Type 0} (calls : List Call) (rows : List Row) (old : Transaction S) (rest : List Call)
      (left : List Row) (new : Transaction S) (result : Result X Error) : Type 0 where
    pub ran : (x : X) → result ≡ Ok x → Leaves calls rows old rest left new
    pub failed : (e : Error) (r : Result (Unit {0}) Error) → result ≡ Err e → IsErrAnd r (λ z. z ≡ e)
        → Added calls rows old new r

  -- a statement put the first of the rows that were left
  first_put : {X : Type 0} {calls : List Call} {rows : List Row} {old mid new : Transaction S} {q : Result X Error}
      (rest after : List Call) (left run more : List Row) (text : List ℕ) → left ≡ run ++ more
      → rest ≡ (text, columns_of run) ∷ after → Leaves calls rows old rest left mid
      → Added ((text, columns_of run) ∷ []) run mid new q → GoesOn calls rows old after more new q
  first_put {mid = mid} {new = new} {q = q} rest after left run more text parts first before it = record {
    ran = λ x is last r next. before last r (subst₂ (λ c l. Added c l mid last r) (sym first) (sym parts)
        (added_then q x r is it next));
    failed = λ e r is told. before new r (subst₂ (λ c l. Added c l mid new r) (sym first) (sym parts)
        (added_stops after (run ++ more) q e r is told it));
  }

  module _ {X : Type 0} (old mid new : Transaction S) (q : Result X Error) (cells run more : List Row)
      (parts : cells ≡ run ++ more) (kept : Continues g mid new) where
    bound_parts : map as_bound cells ≡ map as_bound run ++ map as_bound more
    bound_parts = ap (map as_bound) parts ∙ map-append as_bound run more

    -- by a text that puts as many rows as these
    abbrev pub TurnsBy : List ℕ → Type 0
    TurnsBy text = OnOk q ((schema : Schema) (at : ℕ) (table : Table) → PutsIn schema at table (length run) text
        → AllByRecursion (SuitColumns table.columns) (map as_bound run)
        → Adds g schema table (map as_bound run) mid.conn.now new.conn.now)

    pub run_put : {calls : List Call} {all : List Row} → length run ≡ many
        → RunsInside g ((some, columns_of (map as_bound run)) ∷ []) mid.conn.now new.conn.now q → TurnsBy some
        → Leaves calls all old (puts some one (map as_bound cells)) (map as_bound cells) mid
        → GoesOn calls all old (puts some one (map as_bound more)) (map as_bound more) new q
    run_put long ran ok before =
        let rows = map as_bound run in
        let after = puts some one (map as_bound more) in
        first_put (puts some one (map as_bound cells)) after (map as_bound cells) rows (map as_bound more) some
        bound_parts (ap (puts some one) bound_parts ∙ puts_run some one rows (map as_bound more)
        (length-map run as_bound ∙ long))
        before (record {
          continues = kept;
          runs = ran;
          ok = on_ok q _ _ (λ turns schema at table whole single suits. turns schema at table
              (subst (λ n. PutsIn schema at table n some) (sym long) whole) suits) ok;
        })

    pub row_put : {calls : List Call} {all : List Row} → length run ≡ 1
        → RunsInside g ((one, columns_of (map as_bound run)) ∷ []) mid.conn.now new.conn.now q → TurnsBy one
        → Leaves calls all old (singles one (map as_bound cells)) (map as_bound cells) mid
        → GoesOn calls all old (singles one (map as_bound more)) (map as_bound more) new q
    row_put long ran ok before =
        let rows = map as_bound run in
        let after = singles one (map as_bound more) in
        first_put (singles one (map as_bound cells)) after (map as_bound cells) rows (map as_bound more) one
        bound_parts (ap (singles one) bound_parts ∙ singles_run one rows (map as_bound more)
        (length-map run as_bound ∙ long))
        before (record {
          continues = kept;
          runs = ran;
          ok = on_ok q _ _ (λ turns schema at table whole single suits. turns schema at table
              (subst (λ n. PutsIn schema at table n one) (sym long) single) suits) ok;
        })

  -- none is left
  pub all_put : (calls : List Call) (rows : List Row) (old now : Transaction S) (left : List Row) → length left ≡ 0
      → Leaves calls rows old (singles one left) left now → Added calls rows old now (Ok (tt {0}))
  all_put calls rows old now [] none before = before now (Ok (tt {0})) (added_none now)
  all_put calls rows old now (row ∷ left) none before = absurd cc
