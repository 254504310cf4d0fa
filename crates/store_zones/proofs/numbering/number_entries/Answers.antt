use Rattle.std.proofs.Common.{◌≡◌, [], sym, ap₂, ◌∙◌}
use Rattle.std.proofs.lemmas.Cmp.{nat_list_cmp_total}
use Rattle.std.proofs.lemmas.Grind.{common_steps}
use Rattle.std.proofs.Common.{arith}
use Rattle.std.proofs.lemmas.List.{nil_from_length}
use Rattle.std.proofs.lemmas.List.Sorted.{IsPermutation-refl, IsPermutation-sym}
use Rattle.terms.proofs.Results.{if_ok_both}
use Rattle.store_schema.proofs.WrittenLists.{rising_same}
use Rattle.terms.specs.Types.{Entry}
use Rattle.store_zones.specs.Numbered.{numbered}
use Rattle.store_zones.proofs.EntryNumbers.{none_given, all_rising}
use Rattle.store_zones.proofs.numbering.number_entries.Goals as goal

pub returns-then-is_empty-clause-same : goal.returns-then-is_empty-clause-same
returns-then-is_empty-clause-same c =
    let none : c.args.numbers ≡ [] = nil_from_length c.args.numbers (grind (arith, common_steps)) in
    rw none (sym (none_given c.args.entries).0)

pub returns-then-is_empty-clause-whole : goal.returns-then-is_empty-clause-whole
returns-then-is_empty-clause-whole c =
    let none : c.args.numbers ≡ [] = nil_from_length c.args.numbers (grind (arith, common_steps)) in
    rw none (none_given c.args.entries).1

pub returns-clause-same : goal.returns-clause-same
returns-clause-same c =
    let entries : c.from.result.items ≡ c.args.entries = grind (arith, common_steps) in
    let numbers : c.from-numbers.result.items ≡ c.args.numbers = grind (arith, common_steps) in
    let all = c.in_ok-all.ensures.same ∙ ap₂ numbered entries numbers in
    if_ok_both c.into_table.result _ _ _ (λ table same up.
    rising_same nat_list_cmp_total (λ (e : Entry). e.id) table c.in_ok-all.all.items
    (IsPermutation-sym c.in_ok-all.all.items table same) up
    (all_rising c.args.entries c.args.numbers c.in_ok-all.all.items all c.into_vec-2.ensures.items
    c.into_vec-2.ensures.rising) ∙ all) c.into_table.ensures.same c.into_table.ensures.rise

pub returns-clause-none : goal.returns-clause-none
returns-clause-none c bad whole =
    let entries : c.from.result.items ≡ c.args.entries = grind (arith, common_steps) in
    let numbers : c.from-numbers.result.items ≡ c.args.numbers = grind (arith, common_steps) in
    let all = c.in_ok-all.ensures.same ∙ ap₂ numbered entries numbers in
    c.into_table.ensures.none bad c.in_ok-all.all.items (IsPermutation-refl c.in_ok-all.all.items)
    (all_rising c.args.entries c.args.numbers c.in_ok-all.all.items all c.into_vec-2.ensures.items
    c.into_vec-2.ensures.rising)
