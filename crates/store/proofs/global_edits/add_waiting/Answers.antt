use Rattle.std.proofs.Common.{[], sym, refl}
use Rattle.store_rows.proofs.InsideLemmas.{stays}
use Rattle.store_sysmods.specs.Sysmods.{sourced}
use Rattle.store.specs.Calls.{with_room, with_waiting}
use Rattle.store.proofs.EditCalls.{stays_behind}
use Rattle.store.proofs.Waiting.{waits_as, waits_more, waits_ok, waits_then}
use Rattle.store.proofs.global_edits.add_waiting.Goals as goal

pub returns-clause-goes : goal.returns-clause-goes
returns-clause-goes g c ss are =
    let s = sourced c.args.sysmod.now c.args.sources.now in
    let at = c.make_room.new.tx.conn.now in
    let left = (with_room ([], ss)).1 in
    let room = waits_ok g.S.Store c.in_ok-make_room.was (c.make_room.ensures.goes ss are) in
    waits_as g.S.Store (sym (stays_behind (with_waiting ([], ss) s))) (λ x none. (tt, none)) (λ x. refl)
    (waits_then g.S.Store c.make_room.ensures.continues.inside (stays g.S.Store at) room
    (waits_more g.S.Store left s at c.push.new.self (c.in_ok-push.ensures left room.waits)))
