use Rattle.std.proofs.Common.{◌≡◌, ◌∷◌, ◌++◌, [], inl, None, Some, Ok, Err, Result, Vec, IsErrOf, OnErr, IsPermutation}
use Rattle.std.proofs.Common.{arith, map, refl, rules, sym, subst}
use Rattle.std.specs.List.{AllByRecursion}
use Rattle.std.specs.declared.alloc.Global.{Global}
use Rattle.std.proofs.lemmas.Grind.{common_steps}
use Rattle.std.proofs.lemmas.List.{length-map}
use Rattle.std.proofs.lemmas.List.Sorted.{IsPermutation-trans, IsPermutation-sym}
use Rattle.sqlite.specs.Schema.{Schema}
use Rattle.sqlite.specs.Given.{Advances, IsRefused, Returns, row_if}
use Rattle.sqlite.specs.Held.{state}
use Rattle.sqlite.specs.Listing.{understood}
use Rattle.sqlite.specs.State.{HasCleanDisk}
use Rattle.sqlite.specs.Values.{bound}
use Rattle.sqlite_rules.proofs.ListLemmas.{all_has, has_left, has_right}
use Rattle.store_rows.specs.declared.error.ReadError.{ReadError}
use Rattle.store_rows.specs.declared.error.ReadError.TheVariants.{BadRow, Fault, Memory}
use Rattle.store_rows.specs.Reads.{OnlyReads}
use Rattle.store_rows.specs.Selects.{IsSelect}
use Rattle.store_rows.proofs.Causes.{not_short, failed_by}
use Rattle.store_rows.proofs.RowByRow.{select_returns_none, reads_returns_none, IsUnderWay, none_yet, nothing_new}
use Rattle.store_rows.proofs.RowByRow.{still_same, one_more, commit_kept, all_pushed, mapped_pushed, found_so_far}
use Rattle.store_rows.proofs.RowByRow.{found_all, why_stopped, only_read}
use Rattle.store_rows.proofs.RowLemmas.{has_permuted, unmapped}
use Rattle.store_rows.proofs.Selects.{failed_keeps, select_survives}
use Rattle.store_rows.proofs.reading.load.Given.{Over}
use Rattle.store_rows.proofs.reading.load.Goals.{In_ok-advance, In-Some}
use Rattle.store_rows.proofs.reading.load.Goals as goal

-- ---- what several goals share

short : {X : Type 0} → ¬ IsErrOf {T = X} {E = ReadError} (Err Memory) Fault
short failed = absurd cc

-- a row was asked for, and this is made of it
asked : {X : Type 0} (g : Over) (c : In_ok-advance g) (schema : Schema) (result : Result X ReadError)
    → IsSelect c.args.sql.now → ¬ IsErrOf result Fault
    → OnlyReads g.S.Store schema BadRow Fault c.args.conn.now c.advance.new.self.conn.now result
asked g c schema result is_select sound =
    let key = bound c.args.key.now in
    let old = c.args.conn.now in
    let now = c.rows.rows.conn.now in
    let next = c.advance.new.self.conn.now in
    let rows = map g.T.FromRow.row_of c.rows.items.items in
    let h = c.in_ok-advance.ensures in
    let so_far = c.rows.invariant.under_way (select_returns_none c.args.sql.now key old.schema is_select) in
    only_read g.S.Store schema BadRow Fault old next result sound
    (nothing_new g.S.Store c.args.sql.now key old now next rows so_far h.survives)
    (still_same g.S.Store c.args.sql.now key old now next rows so_far h.survives h.same)
    (λ outside. h.mode (c.rows.invariant.mode outside))

-- and one was given
given : (g : Over) (c : In-Some g) → ¬ Returns (understood c.args.conn.now.schema c.args.sql.now)
    → IsUnderWay g.S.Store c.args.sql.now (bound c.args.key.now) c.args.conn.now c.advance.new.self.conn.now
    (map g.T.FromRow.row_of c.rows.items.items ++ c.in-Some.row.now ∷ [])
given g c silent =
    let now = c.rows.rows.conn.now in
    let next = c.advance.new.self.conn.now in
    let row = c.in-Some.row.now in
    let h = c.in_ok-advance.ensures in
    let some : row_if c.advance.new.self.has_row next ≡ Some row = search rules in
    one_more g.S.Store _ _ c.args.conn.now now next _ (c.rows.invariant.under_way silent) h.survives row h.same
    (λ clean. subst (Advances g.S.Store now next) some (h.ok clean))

-- ---- the query does not begin

pub returns-in_err-rows-clause-reads : goal.returns-in_err-rows-clause-reads
returns-in_err-rows-clause-reads g c is_select schema table text texts =
    let sql = c.args.sql.now in
    let key = bound c.args.key.now in
    let old = state g.S.Store c.args.conn.now in
    let new = state g.S.Store c.query.follows.lender-at-none in
    let e = c.in_err-rows.field-0.0 in
    let held : IsRefused g.S.Store sql key c.args.conn.now (Err e) c.query.follows.lender-at-none =
    subst (λ r. OnErr r (IsRefused g.S.Store sql key c.args.conn.now r c.query.follows.lender-at-none)) c.in_err-rows.was
    c.query.follows.holds-at-none in
    record {
      same = λ clean. search rules;
      bad = λ clean bad. absurd (search rules);
      cause = λ clean failed has.
          failed_by schema table _ sql text key texts (sym (length-map c.args.key.now _)) old new has e
          (not_short c.from_residual.result e c.from_residual.ensures.1 failed) (held.err clean);
      kept = λ clean. failed_keeps sql key is_select old new e (held.err clean);
      crash = select_survives sql key is_select old new held.survives;
      mode = held.mode;
    }

-- ---- its rows

pub rows-init : goal.rows-init
rows-init g c =
    let made = c.in_ok-rows.ensures in
    record {
      same_reference = refl;
      forms = rw c.new-items.ensures.items tt;
      mode = made.mode;
      under_way = λ silent. rw c.new-items.ensures.items
          (none_yet g.S.Store _ _ c.args.conn.now c.in_ok-rows.rows.conn.now made.begun made.survives silent);
    }

pub rows-preserved : goal.rows-preserved
rows-preserved g c =
    let next = c.advance.new.self.conn.now in
    let items = c.rows.items.items in
    let item = c.in_ok-item.item in
    let read = c.in_ok-item.ensures.read in
    let pushed : c.push.new.self.items ≡ items ++ item ∷ [] = grind (arith, common_steps) in
    record {
      same_reference = search rules;
      forms = subst (AllByRecursion g.T.FromRow.has_form) (sym pushed)
          (all_pushed g.T.FromRow.has_form items item c.rows.invariant.forms read.1);
      mode = λ outside. c.in_ok-advance.ensures.mode (c.rows.invariant.mode outside);
      under_way = λ silent. subst
          (IsUnderWay g.S.Store c.args.sql.now (bound c.args.key.now) c.args.conn.now next)
          (mapped_pushed g.T.FromRow.row_of items c.push.new.self.items item c.in-Some.row.now pushed read.0)
          (given g (goal.at.rows-preserved g c).In-Some silent);
    }

pub returns-in_err-advance-clause-reads : goal.returns-in_err-advance-clause-reads
returns-in_err-advance-clause-reads g c is_select schema table text texts =
    let sql = c.args.sql.now in
    let key = bound c.args.key.now in
    let old = c.args.conn.now in
    let now = c.rows.rows.conn.now in
    let next = c.advance.new.self.conn.now in
    let rows = map g.T.FromRow.row_of c.rows.items.items in
    let wide = sym (length-map c.args.key.now _) in
    let e = c.in_err-advance.field-0.0 in
    let h = c.in_err-advance.ensures in
    let so_far = c.rows.invariant.under_way (select_returns_none sql key old.schema is_select) in
    let it : OnlyReads g.S.Store schema BadRow Fault old next c.from_residual-in_err-advance.result = record {
      same = λ clean. search rules;
      bad = λ clean bad. absurd (search rules);
      cause = λ clean failed has.
          why_stopped g.S.Store schema table _ sql key text wide old has now next rows so_far h.survives texts e
          (not_short c.from_residual-in_err-advance.result e c.from_residual-in_err-advance.ensures.1 failed) h.err
          clean;
      kept = commit_kept g.S.Store sql key old now next rows so_far h.survives is_select e h.err;
      crash = nothing_new g.S.Store sql key old now next rows so_far h.survives;
      mode = λ outside. h.mode (c.rows.invariant.mode outside);
    } in
    search rules

-- ---- no row is left

pub returns-in_default-clause-found : goal.returns-in_default-clause-found
returns-in_default-clause-found g c clean schema table text has =
    let old = c.args.conn.now in
    let now = c.rows.rows.conn.now in
    let next = c.advance.new.self.conn.now in
    let h = c.in_ok-advance.ensures in
    let so_far = c.rows.invariant.under_way (reads_returns_none schema old.schema table _ c.args.sql.now text has) in
    let late : HasCleanDisk (state g.S.Store next) = search rules in
    let none : row_if c.advance.new.self.has_row next ≡ None = search rules in
    found_all g.S.Store schema table _ c.args.sql.now (bound c.args.key.now) text (sym (length-map c.args.key.now _)) old
    has now next (map g.T.FromRow.row_of c.rows.items.items) so_far h.survives
    (λ clean. subst (Advances g.S.Store now next) none (h.ok clean)) late

pub returns-in_default-clause-forms : goal.returns-in_default-clause-forms
returns-in_default-clause-forms g c = c.rows.invariant.forms

pub returns-in_default-clause-reads : goal.returns-in_default-clause-reads
returns-in_default-clause-reads g c is_select schema table text texts =
    let it = asked g (goal.at.returns-in_default-clause-reads g c).In_ok-advance schema (Ok c.rows.items) is_select
    (λ none. search rules) in
    search rules

-- ---- a row that stands for nothing, or want of memory

pub returns-in_err-item-clause-none : goal.returns-in_err-item-clause-none
returns-in_err-item-clause-none g c clean bad schema table text has items forms found =
    let sql = c.args.sql.now in
    let key = bound c.args.key.now in
    let old = c.args.conn.now in
    let next = c.advance.new.self.conn.now in
    let rows = map g.T.FromRow.row_of c.rows.items.items in
    let row = c.in-Some.row.now in
    let late : HasCleanDisk (state g.S.Store next) = search rules in
    let more = given g (goal.at.returns-in_err-item-clause-none g c).In-Some
    (reads_returns_none schema old.schema table _ sql text has) in
    let all = found_so_far g.S.Store schema table _ sql key text (sym (length-map c.args.key.now _)) old has next
    (rows ++ row ∷ []) more late in
    let same : IsPermutation ((rows ++ row ∷ []) ++ all.0) (map g.T.FromRow.row_of items) =
    IsPermutation-trans _ _ _ all.1 (IsPermutation-sym _ _ found) in
    let there = has_left (rows ++ row ∷ []) all.0 row (has_right rows (row ∷ []) row (inl refl)) in
    let from = unmapped g.T.FromRow.row_of items row (has_permuted _ _ row same there) in
    let failed : IsErrOf c.read.result BadRow = search rules in
    c.read.ensures.none failed from.0 (all_has g.T.FromRow.has_form items from.0 forms from.1) from.2

pub returns-in_err-item-clause-reads : goal.returns-in_err-item-clause-reads
returns-in_err-item-clause-reads g c is_select schema table text texts =
    let it = asked g (goal.at.returns-in_err-item-clause-reads g c).In_ok-advance schema
    c.from_residual-in_err-item.result is_select (λ none. search rules) in
    search rules

pub returns-then-is_err-clause-reads : goal.returns-then-is_err-clause-reads
returns-then-is_err-clause-reads g c is_select schema table text texts =
    let it = asked {X = Vec g.row.T-Item.Denot Global} g (goal.at.returns-then-is_err-clause-reads g c).In_ok-advance
    schema (Err Memory) is_select short in
    search rules

pub returns-clause-reads : goal.returns-clause-reads
returns-clause-reads g c is_select schema table text texts =
    let old = c.args.conn.now in
    let now = c.rows.rows.conn.now in
    let so_far = c.rows.invariant.under_way
    (select_returns_none c.args.sql.now (bound c.args.key.now) old.schema is_select) in
    let it = only_read {X = Vec g.row.T-Item.Denot Global} g.S.Store schema BadRow Fault old now (Err Memory) short
    so_far.survives (λ clean. (so_far.given clean).1) c.rows.invariant.mode in
    search rules
