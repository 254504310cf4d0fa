use Rattle.sqlite.specs.Held.{state}
use Rattle.store_schema.proofs.Meta.{meta_unchanged, meta_keeps, meta_survives}
use Rattle.store_schema.proofs.Making.{on_ok_if}
use Rattle.store_schema.proofs.numbers.load_meta_rows.Goals as goal

pub returns-clause-same : goal.returns-clause-same
returns-clause-same g c clean = on_ok_if c.query_all.result _ _ (λ rows. meta_unchanged _ _ rows.items)
    (c.query_all.ensures.ok clean)

pub returns-clause-kept : goal.returns-clause-kept
returns-clause-kept g c clean =
    meta_keeps c.query_all.result (state g.S.Store c.args.conn.now) (state g.S.Store c.query_all.new.self)
    (c.query_all.ensures.ok clean) (c.query_all.ensures.err clean)

pub returns-clause-crash : goal.returns-clause-crash
returns-clause-crash g c = meta_survives _ _ c.query_all.ensures.survives
