use Rattle.std.proofs.Common.{◌∙◌, ◌<◌, ℕ, AllPairs, Contains, Some, map, take_all, nat_eq, ap, sym, subst}
use Rattle.std.proofs.Common.{arith}
use Rattle.std.specs.Prelude.{◌↔◌}
use Rattle.std.proofs.lemmas.List.Filters.{dedup_is}
use Rattle.undo.specs.Steps.{as_step}
use Rattle.undo.specs.ByNumbers.{IsNumbered}
use Rattle.terms.proofs.Each.{All_from_each}
use Rattle.undo.proofs.RulesOfSteps.{are_places, numbered_rule, unique_members, unique_rising}
use Rattle.undo.proofs.numbers.rule_of.Goals as goal

pub place_number-requires-clause-there : goal.place_number-requires-clause-there
place_number-requires-clause-there c =
    let nodes = c.as_slice-node-items in
    subst (Contains c.args.table.now) (sym c.node-item.is)
    (All_from_each (Contains c.args.table.now) nodes.result.now
    (λ n h. c.requires.covers.these n (subst (λ l. Contains l n) nodes.ensures.value h))
    c.loop-node.node-index c.node-item.result c.loop-node-test.true)

pub returns-clause-numbered : goal.returns-clause-numbered
returns-clause-numbered c =
    let table = c.args.table.now in
    let nodes = c.as_slice-node-items in
    let found = c.loop-node.these.items in
    let sorted = c.sort_unstable.new.self.items in
    let unique = c.dedup.new.self.items in
    let members : (n : ℕ) → Contains unique n ↔ Contains found n =
    rw (dedup_is nat_eq sorted unique c.dedup.ensures.filtered)
    (unique_members found sorted c.sort_unstable.ensures.permutation) in
    record {
      these = are_places table c.args.step.now.these.items found unique
          (c.loop-node.invariant ∙ ap (map (λ n. Some n))
          (take_all c.loop-node.node-index nodes.result.now (omega arith) ∙ nodes.ensures.value)) members;
      that = c.place_number-that.ensures;
    }

pub returns-clause-valid : goal.returns-clause-valid
returns-clause-valid c =
    let sorted = c.sort_unstable.new.self.items in
    let unique = c.dedup.new.self.items in
    let numbered : IsNumbered c.args.table.now (as_step c.args.step.now)
    record { these = unique; that = c.place_number-that.result } = returns-clause-numbered c in
    let rising : AllPairs (λ a b. a < b) unique =
    rw (dedup_is nat_eq sorted unique c.dedup.ensures.filtered)
    (unique_rising sorted c.sort_unstable.ensures.sorted) in
    numbered_rule c.args.table.now (as_step c.args.step.now) _ numbered rising
