use Rattle.std.proofs.Common.{◌++◌, map, subst, take, arith}
use Rattle.std.proofs.lemmas.List.{take_all}
use Rattle.intake_sysmod.specs.Users.{run_of}
use Rattle.intake_carry.specs.Unsure.{AreLeftOutOf}
use Rattle.intake_carry.proofs.UnsureNames.{none_left, next_run}
use Rattle.intake_carry.proofs.left_out_sysmods.left_out_of_files.Goals as goal

pub loop-file-init : goal.loop-file-init
loop-file-init c = λ items are. none_left items (map (λ s. s.now) c.new-left.result.items)

pub loop-file-preserved : goal.loop-file-preserved
loop-file-preserved c = λ items are.
    let at = c.loop-file in
    let left = map (λ s. s.now) c.push_left_out.new.left.items in
    next_run (λ l. AreLeftOutOf items l left) c.args.files.now at.file-index c.file-item.result (omega arith)
    c.file-item.is
    (subst (λ l. AreLeftOutOf items (run_of (take at.file-index c.args.files.now) ++ l) left) c.as_slice.ensures.value
    (c.in_ok-push_left_out.ensures items are (run_of (take at.file-index c.args.files.now)) (at.invariant items are)))

pub returns : goal.returns
returns c = λ items are.
    subst (λ fs. AreLeftOutOf items (run_of fs) (map (λ s. s.now) c.loop-file.left.items))
    (take_all c.loop-file.file-index c.args.files.now (omega arith)) (c.loop-file.invariant items are)
