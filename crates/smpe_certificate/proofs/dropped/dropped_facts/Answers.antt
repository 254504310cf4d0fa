use Rattle.std.proofs.Common.{◌∙◌, [], ◌∷◌, ap, arith, map}
use Rattle.std.proofs.lemmas.List.{map-append}
use Rattle.terms.proofs.BesideLists.{beside_at, beside_through}
use Rattle.smpe_certificate.specs.Views.{dropped_view}
use Rattle.smpe_certificate.specs.ByNumber.{IsFactOf}
use Rattle.smpe_certificate.proofs.dropped.dropped_facts.Goals as goal

pub loop-i-preserved : goal.loop-i-preserved
loop-i-preserved c =
    let facts = c.loop-i.facts.items in
    let f = c.in_ok-dropped_fact.field-0 in
    beside_at (λ n d g. IsFactOf c.args.judged.now d g) c.args.dropped.now (map dropped_view facts)
    (map dropped_view c.push.new.self.items) c.loop-i.i c.item_at.result (dropped_view f) c.item_at.ensures
    (ap (map dropped_view) c.in_ok-push.ensures.items ∙ map-append dropped_view facts (f ∷ []))
    c.in_ok-dropped_fact.ensures c.loop-i.invariant

pub returns : goal.returns
returns c =
    beside_through (λ n d g. IsFactOf c.args.judged.now d g) c.args.dropped.now (map dropped_view c.loop-i.facts.items)
    c.loop-i.i (omega arith) c.loop-i.invariant
