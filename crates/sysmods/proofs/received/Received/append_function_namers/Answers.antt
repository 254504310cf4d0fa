use Rattle.std.proofs.Common.{◌≡◌, ◌∙◌, ◌++◌, List, [], ◌∷◌, Some, sym, subst, ap, All, OnOk, append-nil, arith, rules}
use Rattle.std.specs.Ordering.{nat_cmp}
use Rattle.std.specs.Cmp.Lexicographic.{slice_cmp}
use Rattle.terms.specs.Types.{Id}
use Rattle.terms.specs.Rising.{Rises}
use Rattle.terms.proofs.RisingLists.{Rises_from_sorted}
use Rattle.sysmods.specs.declared.index.IndexEntry.TheVariants.{One, More}
use Rattle.sysmods.specs.Index.{IsIndexed}
use Rattle.sysmods.proofs.Holding.{rises_values}
use Rattle.sysmods.proofs.Namers.{complete_at, complete_none}
use Rattle.sysmods.proofs.NamersFor.{function_namers_among}
use Rattle.sysmods.proofs.received.Received.append_function_namers.Goals as goal

pub returns-in-Some-One : goal.returns-in-Some-One
returns-in-Some-One c =
    let sets = c.self.inside.index.sets in
    let y = c.in-Some-One.namer in
    let found = c.append_if_function_namer.new.found.items in
    subst (λ (ids : List Id). OnOk c.append_if_function_namer.result (found ≡ c.args.found.now.items ++ ids))
    (function_namers_among c.args.self.now c.args.id sets (y ∷ [])
    (subst (All (IsIndexed sets)) c.self.view_is c.self.invariant.indexed)
    (subst (Rises (slice_cmp nat_cmp) (λ s. s.id)) c.self.view_is
    (rises_values c.self.inside.by_id.entries c.self.invariant.keyed c.self.invariant.sorted))
    (λ i j d before below. absurd (omega (arith, before, below)))
    (complete_at sets c.args.id (One y) (sym c.in-Some-One.ensures.value
    ∙ ap (λ n. Some n) c.in-Some-One.field-0-is)))
    c.append_if_function_namer.ensures

pub returns-in-Some-More : goal.returns-in-Some-More
returns-in-Some-More c =
    let sets = c.self.inside.index.sets in
    let all = c.in-Some-More.namers in
    let found = c.append_function_namers_among.new.found.items in
    subst (λ (ids : List Id). OnOk c.append_function_namers_among.result (found ≡ c.args.found.now.items ++ ids))
    (function_namers_among c.args.self.now c.args.id sets all.keys
    (subst (All (IsIndexed sets)) c.self.view_is c.self.invariant.indexed)
    (subst (Rises (slice_cmp nat_cmp) (λ s. s.id)) c.self.view_is
    (rises_values c.self.inside.by_id.entries c.self.invariant.keyed c.self.invariant.sorted))
    (Rises_from_sorted (slice_cmp nat_cmp) all.keys c.append_function_namers_among.ensures.ordered)
    (complete_at sets c.args.id (More all) (sym c.in-Some-More.ensures.value
    ∙ ap (λ n. Some n) c.in-Some-More.field-0-is)))
    c.append_function_namers_among.ensures.ok

pub returns-in-None : goal.returns-in-None
returns-in-None c =
    let sets = c.self.inside.index.sets in
    sym (append-nil c.args.found.now.items)
    ∙ ap (λ (ids : List Id). c.args.found.now.items ++ ids)
    (function_namers_among c.args.self.now c.args.id sets []
    (subst (All (IsIndexed sets)) c.self.view_is c.self.invariant.indexed)
    (subst (Rises (slice_cmp nat_cmp) (λ s. s.id)) c.self.view_is
    (rises_values c.self.inside.by_id.entries c.self.invariant.keyed c.self.invariant.sorted))
    (λ i j d before below. absurd (omega (arith, below)))
    (complete_none sets c.args.id (search rules)))
