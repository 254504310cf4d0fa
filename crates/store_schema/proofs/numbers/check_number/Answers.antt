use Rattle.sqlite.specs.Held.{state}
use Rattle.store_schema.proofs.Meta.{known_tables, not_known, not_both}
use Rattle.store_schema.proofs.numbers.check_number.Goals as goal

pub returns-then-not-gives_only_number-clause-none : goal.returns-then-not-gives_only_number-clause-none
returns-then-not-gives_only_number-clause-none g c clean is =
    not_known c.args.schema (state g.S.Store c.args.conn.now) (state g.S.Store c.load_meta_rows_with_rowids.new.conn)
    c.in_ok-rows.rows.items (c.in_ok-rows.ensures.shown clean)
    (λ one. not_both c.gives_only_number.result (c.gives_only_number.ensures.1 (rw c.as_slice.ensures.value one))
    c.if-not-gives_only_number.true)

pub returns-clause-known : goal.returns-clause-known
returns-clause-known g c clean =
    known_tables c.args.schema (state g.S.Store c.args.conn.now) (state g.S.Store c.load_meta_rows_with_rowids.new.conn)
    c.in_ok-rows.rows.items (c.in_ok-rows.ensures.shown clean)
    (rw c.as_slice.ensures.value at (c.gives_only_number.ensures.0 c.if-not-gives_only_number.false))
