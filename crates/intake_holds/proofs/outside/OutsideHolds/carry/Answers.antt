use Rattle.std.proofs.Common.{[], ◌∷◌, sym, append-nil}
use Rattle.intake_holds.proofs.Becoming.{held_more}
use Rattle.intake_holds.proofs.outside.OutsideHolds.carry.Goals as goal

pub returns-in_ok-push-in-Ok-Some : goal.returns-in_ok-push-in-Ok-Some
returns-in_ok-push-in-Ok-Some c = λ stated carried.
    held_more stated c.args.hold.now c.args.self.now.placed.items _ (c.in-Ok-Some.item ∷ [])
    c.args.self.now.is_refused (rw c.in-Ok-Some.field-0-is at c.in-Ok-Some.ensures)
    c.in_ok-push-in-Ok-Some.ensures.items carried

pub returns-in-Ok-None : goal.returns-in-Ok-None
returns-in-Ok-None c = λ stated carried.
    let placed = c.args.self.now.placed.items in
    held_more stated c.args.hold.now placed placed [] c.args.self.now.is_refused
    (rw c.in-Ok-None.field-0-is at c.in-Ok-None.ensures) (sym (append-nil placed)) carried
