use Rattle.std.proofs.Common.{Contains, map, sym, subst, ap, ◌∙◌}
use Rattle.std.proofs.lemmas.Result.{IfOk-weaker}
use Rattle.terms.specs.Candidates.{has_mass_choice}
use Rattle.select.specs.Scopes.{named_ids}
use Rattle.select.proofs.Starts.{start_received, start_named}
use Rattle.select.proofs.start.possible_start_ids.Goals as goal

pub returns-then-has_mass_choice : goal.returns-then-has_mass_choice
returns-then-has_mass_choice c =
    IfOk-weaker c.received_ids.result _ _
    (λ ids same x start. subst (λ xs. Contains xs x)
    (sym (same ∙ ap (λ s. map (λ m. m.id) s.global.sysmods) c.scope.view_is))
    (start_received c.args.scope.now x start))
    c.received_ids.ensures

pub returns-else-has_mass_choice : goal.returns-else-has_mass_choice
returns-else-has_mass_choice c =
    IfOk-weaker c.named_ids.result _ _
    (λ ids same x start. subst (λ xs. Contains xs x)
    (sym (same ∙ ap (λ s. named_ids s.selection) c.scope.view_is))
    (start_named c.args.scope.now x start (ap (λ s. has_mass_choice s.selection) (sym c.scope.view_is)
    ∙ sym c.has_mass_choice.ensures ∙ c.if-has_mass_choice.false)))
    c.named_ids.ensures
