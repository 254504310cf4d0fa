use Rattle.std.proofs.Common.{◌≡◌, ◌∙◌, ◌++◌, Contains, ap₂, arith, map, subst, take_all}
use Rattle.std.specs.Prelude.{◌↔◌}
use Rattle.smpe_service.proofs.restored.listed_ids.Goals as goal

pub returns : goal.returns
returns c = λ x.
    let candidates = c.args.candidates.now in
    let items = c.as_slice-id-items.result.now in
    let all : c.loop-id.ids.items ≡ candidates.ids ++ map (λ p. p.0) candidates.left_out.items =
    c.loop-id.invariant
    ∙ ap₂ (λ xs ps. xs ++ map (λ p. p.0) ps) (c.in_ok-ids.ensures.items ∙ c.as_slice.ensures.items)
    (take_all c.loop-id.id-index items (omega arith) ∙ c.as_slice-id-items.ensures.value) in
    subst (λ l. Contains c.from_vec.result x ↔ Contains l x) all (c.from_vec.ensures.members x)
