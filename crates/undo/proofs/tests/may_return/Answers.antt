use Rattle.std.proofs.Common.{◌≡◌, ◌∙◌, true, ap, sym}
use Rattle.std.specs.Prelude.{◌&&◌}
use Rattle.terms.specs.Lookups.{is_applied}
use Rattle.terms.specs.Restore.{are_alike}
use Rattle.undo.specs.Scopes.{restoring_of}
use Rattle.undo.proofs.Testing.{returns_by}
use Rattle.undo.proofs.tests.may_return.Goals as goal

pub returns-then-is_applied : goal.returns-then-is_applied
returns-then-is_applied c =
    let r = restoring_of c.args.scope.now in
    let e = c.args.element.now in
    let there : is_applied r.zone e.fmid ≡ true =
    ap (λ v. is_applied r.zone v.fmid) (sym c.element.view_is) ∙ sym c.is_applied.ensures.same ∙ c.if-is_applied.true in
    c.are_alike.ensures ∙ sym (returns_by r e ∙ ap (λ b. b && are_alike r.zone r.accepted e) there)
