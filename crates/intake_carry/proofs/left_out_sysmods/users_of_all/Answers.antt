use Rattle.std.proofs.Common.{take, arith}
use Rattle.std.proofs.lemmas.List.Elements.{All-weaker}
use Rattle.terms.proofs.BesideLists.{all_next, all_through}
use Rattle.intake_sysmod.specs.Users.{IsKnown}
use Rattle.intake_carry.proofs.left_out_sysmods.users_of_all.Goals as goal

pub loop-stated-preserved : goal.loop-stated-preserved
loop-stated-preserved c =
    let at = c.loop-stated in
    let new = c.add_users_of_sysmod.new.users in
    all_next (λ s. IsKnown new s.now) c.args.sysmods.now at.stated-index c.stated-item.result (omega arith)
    c.stated-item.is c.in_ok-add_users_of_sysmod.ensures.has
    (All-weaker (λ s. IsKnown at.users s.now) (λ s. IsKnown new s.now)
    (λ s known key has. c.in_ok-add_users_of_sysmod.ensures.grows key s.now.id.items (known key has))
    (take at.stated-index c.args.sysmods.now) at.invariant)

pub returns : goal.returns
returns c =
    all_through (λ s. IsKnown c.loop-stated.users s.now) c.args.sysmods.now c.loop-stated.stated-index (omega arith)
    c.loop-stated.invariant
