use Rattle.std.proofs.Common.{◌++◌, ◌∙◌, [], ◌∷◌, ap, ap₂, sym, map, filter}
use Rattle.std.specs.List.{flat_map}
use Rattle.std.proofs.lemmas.List.Concat.{flat_map-append}
use Rattle.terms.specs.Types.{Id}
use Rattle.terms.specs.Lookups.{at_most_one, is_applied}
use Rattle.undo.specs.Dependences.{suppliers}
use Rattle.undo.proofs.Needing.{flat_items}
use Rattle.why_facts.specs.Needed.{sole}
use Rattle.why_facts.proofs.needed.only_suppliers.Goals as goal

pub returns : goal.returns
returns c =
    let zone = c.args.zone.now in
    let by_function = λ (f : Id). filter (is_applied zone) (f ∷ []) in
    let ids = c.in_ok-requisites.requisites.items in
    let function = c.fmid.result in
    c.in_ok-push_applied_function.ensures
    ∙ ap (λ l. l ++ flat_map (λ f. sole (by_function f)) (at_most_one function))
    (c.in_ok-push_only_suppliers.ensures ∙ ap₂ (λ a l. a ++ flat_map (λ z. sole (suppliers zone z)) l)
    c.new-found.ensures.items
    c.as_slice.ensures.value)
    ∙ ap₂ (λ a b. a ++ b) (flat_items sole (suppliers zone) ids)
    (flat_items sole by_function (at_most_one function))
    ∙ sym (flat_map-append sole (map (suppliers zone) ids) (map by_function (at_most_one function)))
    ∙ ap₂ (λ a b. flat_map sole (map (suppliers zone) a ++ map by_function (at_most_one b))) c.in_ok-requisites.ensures
    c.fmid.ensures
