use Rattle.store_rows.proofs.InsideLemmas.{on_ok}
use Rattle.store_schema.specs.Tables.{store_schema, hold}
use Rattle.store_sysmods.proofs.HoldTexts.{takes_hold}
use Rattle.store_sysmods.proofs.hold.remove_hold.Goals as goal

pub returns-clause-ok : goal.returns-clause-ok
returns-clause-ok g c =
    on_ok c.remove.result _ _ (λ removed. rw (c.as_bytes.ensures.same, c.hold_text.ensures, c.as_bytes-2.ensures.same)
    at (removed store_schema 4 hold takes_hold)) c.remove.ensures.ok

pub returns-clause-calls : goal.returns-clause-calls
returns-clause-calls g c =
    rw (c.as_bytes.ensures.same, c.hold_text.ensures, c.as_bytes-2.ensures.same) at c.remove.ensures.calls
