use Rattle.std.proofs.Common.{◌≡◌, arith, refl, sym, ◌∙◌}
use Rattle.sqlite.specs.Held.{state}
use Rattle.sqlite.specs.State.{HasCleanDisk}
use Rattle.store_schema.specs.Known.{HasTablesUnder}
use Rattle.store_migration.specs.Checked.{Checks}
use Rattle.store_migration.proofs.Ending.{no_schema, tables_made, checks_then, not_checked, has_read, own_kept}
use Rattle.store_migration.proofs.Ending.{all_taken, not_taken}
use Rattle.store_migration.proofs.migration.migrate_tables.Given.{Over}
use Rattle.store_migration.proofs.migration.migrate_tables.Goals.{After-check_all}
use Rattle.store_migration.proofs.migration.migrate_tables.Goals as goal

pub returns-in_err-schema : goal.returns-in_err-schema
returns-in_err-schema g c =
    let r = c.find_schema in
    no_schema g.S.Store c.args.conn.now c.attest.ensures r.new.conn r.result _ c.from_residual.result
    c.in_err-schema.was c.from_residual.ensures.1 r.ensures.other r.ensures.none r.ensures.kept r.ensures.crash
    r.ensures.mode

pub returns-in_default : goal.returns-in_default
returns-in_default g c =
    let s = g.S.Store in
    let new = c.set_up.new.conn in
    let none = rw c.in_default.is at c.in_ok-schema.ensures.blank in
    let same : c.find_schema.new.conn ≡ c.args.conn.now = none.1 in
    let made = rw same at c.set_up.ensures in
    tables_made s c.args.conn.now c.attest.ensures new c.set_up.result none.0 made.stands made.is_open made.was_open
    made.other made.none made.unchanged made.crash made.mode

-- what was read before anything is written
known : (g : Over) (c : After-check_all g) → HasCleanDisk (state g.S.Store c.check_all.new.conn)
    → HasTablesUnder c.in-Some.schema (state g.S.Store c.args.conn.now).now
known g c clean =
    rw c.in-Some.is at (c.in_ok-schema.ensures.known (omega (arith, clean, c.check_all.ensures.reads.crash.clean)))

checks : (g : Over) (c : After-check_all g)
    → Checks g.S.Store c.in-Some.schema c.args.conn.now c.check_all.new.conn c.check_all.result
checks g c =
    checks_then g.S.Store c.args.conn.now c.attest.ensures c.in-Some.schema c.find_schema.new.conn
    c.check_all.new.conn c.check_all.result
    (λ clean. rw c.in-Some.is at (c.in_ok-schema.ensures.same clean)) c.find_schema.ensures.crash
    c.find_schema.ensures.mode c.check_all.ensures

pub returns-in_err-heads : goal.returns-in_err-heads
returns-in_err-heads g c =
    let read = (goal.at.returns-in_err-heads g c).After-check_all in
    not_checked g.S.Store c.args.conn.now c.attest.ensures c.in-Some.schema c.check_all.new.conn (known g read)
    c.check_all.result (checks g read) _ c.from_residual-in_err-heads.result (sym c.map_read_error.ensures ∙
    c.in_err-heads.was)
    c.from_residual-in_err-heads.ensures.1 (c.check_all.ensures.reads.mode c.find_schema.ensures.mode)

pub returns-in-Third : goal.returns-in-Third
returns-in-Third g c =
    let read = (goal.at.returns-in-Third g c).After-check_all in
    own_kept g.S.Store c.args.conn.now c.attest.ensures c.in-Some.schema c.check_all.new.conn (known g read)
    c.check_all.result (checks g read) c.in_ok-heads.heads
    (has_read c.check_all.result c.in_ok-heads.heads (sym c.map_read_error.ensures ∙ c.in_ok-heads.was)) (tt {0})
    c.in-Third.is
    (c.if-prove.ensures.settled refl) (c.check_all.ensures.reads.mode c.find_schema.ensures.mode)

pub returns-in_err-convert_and_commit-in_default-schema : goal.returns-in_err-convert_and_commit-in_default-schema
returns-in_err-convert_and_commit-in_default-schema g c =
    let read = (goal.at.returns-in_err-convert_and_commit-in_default-schema g c).After-check_all in
    let made = rw c.as_slice.ensures.value at c.convert_and_commit.ensures in
    not_taken g.S.Store c.args.conn.now c.attest.ensures c.in-Some.schema c.check_all.new.conn (known g read)
    c.check_all.result (checks g read) c.in_ok-heads.heads
    (has_read c.check_all.result c.in_ok-heads.heads (sym c.map_read_error.ensures ∙ c.in_ok-heads.was))
    c.convert_and_commit.new.conn c.in_default-schema.not-Third made.crash made.mode c.convert_and_commit.result _
    c.from_residual-in_err-convert_and_commit-in_default-schema.result c.in_err-convert_and_commit-in_default-schema.was
    c.from_residual-in_err-convert_and_commit-in_default-schema.ensures.1 made.unchanged made.was_open

pub returns : goal.returns
returns g c =
    let read = (goal.at.returns g c).After-check_all in
    let made = rw c.as_slice.ensures.value at c.convert_and_commit.ensures in
    let done = rw c.as_slice.ensures.value at c.in_ok-convert_and_commit-in_default-schema.ensures in
    all_taken g.S.Store c.args.conn.now c.attest.ensures c.in-Some.schema c.check_all.new.conn (known g read)
    c.check_all.result (checks g read) c.in_ok-heads.heads
    (has_read c.check_all.result c.in_ok-heads.heads (sym c.map_read_error.ensures ∙ c.in_ok-heads.was))
    c.convert_and_commit.new.conn c.in_default-schema.not-Third made.crash made.mode (tt {0}) done.made done.is_open
    made.was_open
