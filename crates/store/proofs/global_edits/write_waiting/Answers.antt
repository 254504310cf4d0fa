use Rattle.store.proofs.Waiting.{waits_written}
use Rattle.store.proofs.global_edits.write_waiting.Goals as goal

pub returns-clause-goes : goal.returns-clause-goes
returns-clause-goes g c ss are =
    waits_written g.S.Store ss _ _ c.new.result c.new.ensures (c.in_ok-insert_sysmods.ensures.calls ss are)
    (c.in_ok-insert_sysmods.ensures.stands ss are)
