use Rattle.std.proofs.Common.{map, sym, subst, ◌∙◌}
use Rattle.std.specs.Prelude.{All}
use Rattle.std.proofs.lemmas.Result.{on_ok_weaker}
use Rattle.std.proofs.lemmas.List.Elements.{All-map}
use Rattle.terms.specs.Types as terms
use Rattle.intake_carry.specs.Unsure.{Meets, IsAmong}
use Rattle.intake_carry.proofs.UnsureNames.{same_sysmod, no_sysmod}
use Rattle.intake_carry.proofs.unsure.push_if_unsure.Goals as goal

pub returns-in-Sysmod-clause-named : goal.returns-in-Sysmod-clause-named
returns-in-Sysmod-clause-named c =
    let new = c.push_sysmod_if_unsure.new.unsure.items in
    let left = c.args.doubts.now.left.now in
    on_ok_weaker c.push_sysmod_if_unsure.result (λ named s e.
    subst (λ (x : terms.Sysmod). All (λ l. Meets l x → IsAmong new x.id) (map (λ l. l.now) left))
    (same_sysmod c.in-Sysmod.sysmod s (sym c.in-Sysmod.is ∙ e))
    (All-map (λ l. Meets l c.in-Sysmod.sysmod → IsAmong new c.in-Sysmod.sysmod.id) (λ l. l.now) left named))
    c.push_sysmod_if_unsure.ensures.named

pub returns-in-Assign-clause-named : goal.returns-in-Assign-clause-named
returns-in-Assign-clause-named c = λ s e. absurd (no_sysmod c.in-Assign.field-0 s (sym c.in-Assign.is ∙ e))

pub returns-in-Assign-clause-kept : goal.returns-in-Assign-clause-kept
returns-in-Assign-clause-kept c = λ id among. among
