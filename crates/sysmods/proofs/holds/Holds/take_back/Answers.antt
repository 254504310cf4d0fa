use Rattle.std.proofs.Common.{sym, subst}
use Rattle.sysmods.specs.Undone.{Undoes}
use Rattle.sysmods.specs.declared.undo.Undo.TheVariants.{Remove, Restore}
use Rattle.sysmods.proofs.HoldMaps.{removed}
use Rattle.sysmods.proofs.Undoing.{kept_restored, takes_new, takes_replaced}
use Rattle.sysmods.proofs.holds.Holds.take_back.Goals as goal

pub invariant_of-self : goal.invariant_of-self
invariant_of-self c = removed c.self.inside.map.entries c.self.invariant c.in-Remove.key c.remove.new.self.entries
    c.remove.ensures.entries c.remove.ensures.ordered

pub invariant_of-self-in-Restore : goal.invariant_of-self-in-Restore
invariant_of-self-in-Restore c =
    kept_restored c.self.inside.map.entries c.insert.new.self.entries c.self.invariant c.of_hold.result
    c.in-Restore.hold c.of_hold.ensures c.insert.result c.insert.ensures.entries c.insert.ensures.err
    c.insert.ensures.ordered

pub returns-in-Remove : goal.returns-in-Remove
returns-in-Remove c =
    λ old undoes.
    let before = subst (λ u. Undoes old c.args.self.now u) c.in-Remove.is undoes in
    let inside = subst (λ xs. Undoes old xs (Remove c.in-Remove.key)) (sym c.self.view_is) before in
    takes_new c.self.inside.map.entries c.remove.new.self.entries c.self.invariant c.in-Remove.key
    c.remove.ensures.entries old inside

pub returns-in-Restore : goal.returns-in-Restore
returns-in-Restore c =
    λ old undoes.
    let before = subst (λ u. Undoes old c.args.self.now u) c.in-Restore.is undoes in
    let inside = subst (λ xs. Undoes old xs (Restore c.in-Restore.hold)) (sym c.self.view_is) before in
    takes_replaced c.self.inside.map.entries c.insert.new.self.entries c.self.invariant c.of_hold.result
    c.in-Restore.hold c.of_hold.ensures c.insert.result c.insert.ensures.entries c.insert.ensures.absent old inside
