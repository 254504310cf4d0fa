use Rattle.intake_carry.proofs.held_copies.without_held_already.Goals as goal

pub returns : goal.returns
returns c = c.keep_unheld.ensures c.args.items.now c.in_ok-keys.ensures
