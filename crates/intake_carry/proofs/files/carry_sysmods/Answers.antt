use Rattle.std.proofs.Common.{arith}
use Rattle.intake_carry.specs.Carried.{item_in, SysmodBecomes}
use Rattle.intake_holds.proofs.Becoming.{become_next, become_whole}
use Rattle.intake_carry.proofs.files.carry_sysmods.Goals as goal

pub loop-stated-init : goal.loop-stated-init
loop-stated-init c = (c.new-gathered.ensures.items, c.new-gathered.ensures.outside)

pub loop-stated-preserved : goal.loop-stated-preserved
loop-stated-preserved c =
    let carried = c.in_ok-carried.carried in
    become_next (SysmodBecomes c.args.scope.now.options.now.decide c.args.scope.now.users.now) c.args.sysmods.now
    c.loop-stated.gathered.items.items c.push.new.self.items.items c.loop-stated.gathered.outside.items
    c.push.new.self.outside.items c.loop-stated.stated-index c.stated-item.result (item_in carried.sysmod)
    carried.outside.items (omega arith) c.stated-item.is c.in_ok-push.ensures.items
    c.in_ok-push.ensures.outside c.in_ok-carried.ensures c.loop-stated.invariant

pub returns : goal.returns
returns c =
    become_whole (SysmodBecomes c.args.scope.now.options.now.decide c.args.scope.now.users.now) c.args.sysmods.now
    c.loop-stated.gathered.items.items c.loop-stated.gathered.outside.items c.loop-stated.stated-index
    (omega arith) c.loop-stated.invariant
