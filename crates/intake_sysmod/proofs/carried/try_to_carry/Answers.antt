use Rattle.std.proofs.Common.{◌∙◌}
use Rattle.intake_sysmod.proofs.Whole.{whole}
use Rattle.intake_sysmod.proofs.carried.try_to_carry.Goals as goal

pub returns : goal.returns
returns c =
    let both = c.are_both.ensures c.if-not-are_both.false in
    let can = c.in_ok-is_carriable.ensures both.1 in
    whole c.args.options.now.decide c.args.users.now c.args.stated.now c.in-Some.id c.new-sysmod.result
    c.add_elements.new.sysmod c.with_vers.result c.in-Some-vers.vers.items c.new-sysmod.ensures
    c.in_ok-added_all.ensures.rest c.with_vers.ensures
    ((rw c.in-Some.is at c.in_ok-id.ensures) ∙ c.as_slice.ensures.value)
    (rw c.in-Some-vers.is at c.in_ok-vers.ensures) (c.in_ok-added_all.ensures.done both.0)
    c.in_ok-added_all.ensures.said can.0 can.1
