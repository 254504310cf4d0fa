use Rattle.std.proofs.Common.{◌∙◌}
use Rattle.std.proofs.lemmas.List.{length-map}
use Rattle.sqlite.specs.Held.{state}
use Rattle.sqlite.specs.Values.{bound}
use Rattle.store_rows.proofs.InsideLemmas.{on_ok}
use Rattle.store_rows.proofs.Writing.{take_out_parent}
use Rattle.store_rows.proofs.statement.remove_parent.Goals as goal

pub returns-clause-ok : goal.returns-clause-ok
returns-clause-ok g c =
    on_ok c.run_statement.result _ _ (λ ran schema at table children text one clean contents none was.
    take_out_parent schema at table children c.args.sql.now (bound c.args.parent.now) (state g.S.Store
    c.args.tx.now.conn.now)
    (state g.S.Store c.run_statement.new.tx.conn.now) (ran clean).0 contents
    (length-map c.args.parent.now _ ∙ one) text none was (ran clean).1) c.run_statement.ensures.ran
