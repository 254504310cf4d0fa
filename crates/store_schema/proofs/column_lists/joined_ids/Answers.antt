use Rattle.std.proofs.Common.{◌≡◌, ◌∷◌, ◌++◌, take, rules, arith, sym, ap, ap₂, ◌∙◌}
use Rattle.std.specs.List.{flat_map, join_with_byte}
use Rattle.std.proofs.lemmas.List.{take_all}
use Rattle.terms.proofs.Lists.{joined}
use Rattle.store_schema.proofs.column_lists.joined_ids.Goals as goal

pub returns : goal.returns
returns c =
    let first = c.in-Some.first.now in
    let rest = c.in-Some.rest.now in
    let front : c.extend_from_slice.new.self.items ≡ first = search rules in
    let all : take c.loop-id.id-index rest ≡ rest = take_all c.loop-id.id-index rest
    (omega (arith, c.loop-id-test.false)) in
    let ids : c.args.ids.now ≡ first ∷ rest = search rules in
    c.loop-id.invariant ∙ ap₂ (λ a b. a ++ flat_map (λ id. 44 ∷ id) b) front all ∙ joined 44 first rest
    ∙ ap (join_with_byte 44) (sym ids)
