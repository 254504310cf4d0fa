use Rattle.std.proofs.Common.{◌≡◌, ◌∙◌, ◌++◌, [], ◌∷◌, ap, sym, rules}
use Rattle.std.specs.Prelude.{if◌then◌else◌}
use Rattle.why_facts.specs.Needed.{sole}
use Rattle.why_facts.proofs.needed.push_only_member.Goals as goal

pub returns-in_ok-push : goal.returns-in_ok-push
returns-in_ok-push c =
    let first = c.in-Some.first.now in
    let rest = c.in-Some.rest.now in
    let old = c.args.found.now.items in
    let ids : c.args.group.now ≡ first ∷ rest = search rules in
    c.in_ok-push.ensures.items
    ∙ ap (λ b. old ++ (if b then first ∷ [] else [])) (sym c.if-is_only_member.true ∙ c.is_only_member.ensures)
    ∙ ap (λ g. old ++ sole g) (sym ids)
