use Rattle.sqlite.specs.Held.{state}
use Rattle.store_schema.proofs.Meta.{other_number, none_other, not_both}
use Rattle.store_schema.proofs.numbers.refuse_other_numbers.Goals as goal

pub returns-then-has_other_number-clause-other : goal.returns-then-has_other_number-clause-other
returns-then-has_other_number-clause-other g c clean is =
    other_number c.args.numbers.now (state g.S.Store c.args.conn.now) (state g.S.Store c.load_meta_rows.new.conn)
    c.in_ok-rows.rows.items (c.in_ok-rows.ensures.shown clean)
    (rw c.as_slice.ensures.value at (c.has_other_number.ensures.0 c.if-has_other_number.true))

pub returns-clause-known : goal.returns-clause-known
returns-clause-known g c clean =
    none_other c.args.numbers.now (state g.S.Store c.args.conn.now) (state g.S.Store c.load_meta_rows.new.conn)
    c.in_ok-rows.rows.items (c.in_ok-rows.ensures.shown clean)
    (λ other. not_both c.has_other_number.result (c.has_other_number.ensures.1 (rw c.as_slice.ensures.value other))
    c.if-has_other_number.false)
