use Rattle.std.proofs.Common.{◌≡◌, ◌∙◌, ◌++◌, ap, arith, map, take_all}
use Rattle.std.specs.List.{flat_map}
use Rattle.undo.specs.Scopes.{restoring}
use Rattle.undo.proofs.Needing.{flat_more}
use Rattle.why_facts.specs.Needed.{soles}
use Rattle.why_facts.proofs.needed.needed_pairs.Goals as goal

pub loop-by-preserved : goal.loop-by-preserved
loop-by-preserved c =
    let r = restoring c.args.vers.now c.args.zone.now c.args.zone.now in
    let by = c.by-item.result in
    let ids = c.as_slice-id-items.result.now in
    let are : ids ≡ soles r by = c.as_slice-id-items.ensures.value ∙ c.in_ok-ids.ensures in
    c.loop-id.invariant
    ∙ ap (λ xs. c.loop-by.pairs.items ++ map (λ x. (x, by)) xs) (take_all c.loop-id.id-index ids (omega arith) ∙ are)
    ∙ ap (λ ps. ps ++ map (λ x. (x, by)) (soles r by)) c.loop-by.invariant
    ∙ flat_more (λ y. map (λ x. (x, y)) (soles r y)) c.args.applied.now c.loop-by.by-index by (omega arith) c.by-item.is

pub returns : goal.returns
returns c =
    let r = restoring c.args.vers.now c.args.zone.now c.args.zone.now in
    c.loop-by.invariant ∙ ap (flat_map (λ y. map (λ x. (x, y)) (soles r y)))
    (take_all c.loop-by.by-index c.args.applied.now (omega arith) ∙ c.requires)
