use Rattle.std.proofs.Common.{arith}
use Rattle.intake_carry.specs.Carried.{FileBecomes}
use Rattle.intake_holds.proofs.Becoming.{become_next, become_whole}
use Rattle.intake_carry.proofs.files.carry_files.Goals as goal

pub loop-file-init : goal.loop-file-init
loop-file-init c = (c.new-gathered.ensures.items, c.new-gathered.ensures.outside)

pub loop-file-preserved : goal.loop-file-preserved
loop-file-preserved c =
    let more = c.in_ok-more.more in
    become_next (FileBecomes c.args.scope.now.options.now.decide c.args.scope.now.users.now) c.args.files.now
    c.loop-file.gathered.items.items
    c.append.new.self.items.items c.loop-file.gathered.outside.items c.append.new.self.outside.items
    c.loop-file.file-index c.file-item.result more.items.items more.outside.items (omega arith) c.file-item.is
    c.in_ok-append.ensures.items c.in_ok-append.ensures.outside c.in_ok-more.ensures c.loop-file.invariant

pub returns : goal.returns
returns c =
    become_whole (FileBecomes c.args.scope.now.options.now.decide c.args.scope.now.users.now) c.args.files.now
    c.loop-file.gathered.items.items
    c.loop-file.gathered.outside.items c.loop-file.file-index (omega arith) c.loop-file.invariant
