use Rattle.std.proofs.Common.{◌++◌, true, subst, sym, append-nil, arith}
use Rattle.std.specs.BTreeSet.{Updates}
use Rattle.std.proofs.lemmas.List.{take_all}
use Rattle.intake_carry.specs.Keys.{key_cmp, AreKeysOf}
use Rattle.intake_carry.proofs.HeldKeys.{next_key}
use Rattle.intake_carry.proofs.held_copies.add_keys.Goals as goal

pub loop-hold-init : goal.loop-hold-init
loop-hold-init c = λ before are. subst (AreKeysOf c.args.keys.now) (sym (append-nil before)) are

pub loop-hold-preserved : goal.loop-hold-preserved
loop-hold-preserved c = λ before are.
    next_key c.loop-hold.keys c.insert.new.self before c.args.holds.now c.loop-hold.hold-index c.hold-item.result
    (omega arith) c.hold-item.is
    (subst (λ k. Updates key_cmp c.loop-hold.keys c.insert.new.self k true) c.key_of.ensures
    c.in_ok-insert.ensures.updates) (c.loop-hold.invariant before are)

pub returns : goal.returns
returns c = λ before are.
    subst (λ l. AreKeysOf c.loop-hold.keys (before ++ l))
    (take_all c.loop-hold.hold-index c.args.holds.now (omega arith))
    (c.loop-hold.invariant before are)
