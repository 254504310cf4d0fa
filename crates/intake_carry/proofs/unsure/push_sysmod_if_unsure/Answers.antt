use Rattle.std.proofs.lemmas.List.Elements.{All-weaker}
use Rattle.std.proofs.Common.{subst}
use Rattle.intake_carry.specs.Unsure.{Meets, IsAmong}
use Rattle.intake_carry.proofs.UnsureNames.{among_last, among_still, all_named}
use Rattle.intake_carry.proofs.unsure.push_sysmod_if_unsure.Goals as goal

pub returns-in_default-clause-named : goal.returns-in_default-clause-named
returns-in_default-clause-named c =
    let s = c.args.sysmod.now in
    All-weaker (λ l. ¬ Meets l.now s) (λ l. Meets l.now s → IsAmong c.args.unsure.now.items s.id)
    (λ l none meets. absurd (none meets)) c.args.doubts.now.left.now (rw c.in_default.is at c.in_ok-reason.ensures)

pub returns-in_default-clause-kept : goal.returns-in_default-clause-kept
returns-in_default-clause-kept c = λ id among. among

pub returns-clause-named : goal.returns-clause-named
returns-clause-named c =
    all_named (λ l. l.now) c.args.doubts.now.left.now c.args.sysmod.now c.push.new.self.items
    (subst (IsAmong c.push.new.self.items) c.id_of.ensures
    (among_last c.args.unsure.now.items c.push.new.self.items _ c.in_ok-push.ensures.items))

pub returns-clause-kept : goal.returns-clause-kept
returns-clause-kept c = among_still c.args.unsure.now.items c.push.new.self.items _ c.in_ok-push.ensures.items
