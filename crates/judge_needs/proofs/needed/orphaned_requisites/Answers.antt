use Rattle.std.proofs.Common.{◌∙◌, [], cond, refl, ap, subst, Contains}
use Rattle.std.specs.Prelude.{◌↔◌}
use Rattle.terms.specs.Types.{Id}
use Rattle.terms.specs.Needs.{orphans}
use Rattle.zones.specs.Scopes.{setting_of}
use Rattle.judge_needs.proofs.needed.orphaned_requisites.Goals as goal

pub returns-then-contains : goal.returns-then-contains
returns-then-contains c =
    let s = setting_of c.args.scope.now in
    let x = c.args.id in
    subst (λ l. (z : Id) → Contains c.from_vec.result z ↔ Contains l z)
    (c.in_ok-ids.ensures s refl refl refl
    ∙ ap (λ b. cond b (orphans s x) []) c.if-contains.ensures)
    c.from_vec.ensures.members
