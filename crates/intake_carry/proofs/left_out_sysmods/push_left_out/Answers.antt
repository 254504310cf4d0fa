use Rattle.std.proofs.Common.{◌++◌, map, subst, sym, take, append-nil, arith}
use Rattle.std.proofs.lemmas.List.{take_all}
use Rattle.intake_carry.specs.Unsure.{AreLeftOutOf}
use Rattle.intake_carry.proofs.UnsureNames.{next_after}
use Rattle.intake_carry.proofs.left_out_sysmods.push_left_out.Goals as goal

pub loop-stated-init : goal.loop-stated-init
loop-stated-init c = λ items are before all.
    subst (λ l. AreLeftOutOf items l (map (λ s. s.now) c.args.left.now.items)) (sym (append-nil before)) all

pub loop-stated-preserved : goal.loop-stated-preserved
loop-stated-preserved c = λ items are before all.
    let at = c.loop-stated in
    next_after (λ l. AreLeftOutOf items l (map (λ s. s.now) c.push_if_left_out.new.left.items)) before
    c.args.sysmods.now at.stated-index c.stated-item.result (omega arith) c.stated-item.is
    (c.in_ok-push_if_left_out.ensures items are (before ++ take at.stated-index c.args.sysmods.now)
    (at.invariant items are before all))

pub returns : goal.returns
returns c = λ items are before all.
    subst (λ l. AreLeftOutOf items (before ++ l) (map (λ s. s.now) c.loop-stated.left.items))
    (take_all c.loop-stated.stated-index c.args.sysmods.now (omega arith))
    (c.loop-stated.invariant items are before all)
