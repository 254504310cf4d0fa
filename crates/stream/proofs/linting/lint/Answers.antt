use Rattle.std.proofs.Common.{◌⊎◌, get_or, Contains, subst, subst₂, sym}
use Rattle.std.specs.Prelude.{◌↔◌}
use Rattle.std.proofs.lemmas.List.Elements.{All-contains, Contains-get_or}
use Rattle.terms.specs.Types.{Id}
use Rattle.terms.specs.Stream.{IsInStream}
use Rattle.sysmods.specs.Choices.{choice}
use Rattle.stream.specs.declared.linting.Findings.{Findings}
use Rattle.stream.specs.Comparing.{HasFound, AreOrdered}
use Rattle.stream.specs.Lints.{TellBreaches}
use Rattle.stream.specs.Ordering.{IsOrder}
use Rattle.stream.proofs.Clean.{ordered_from}
use Rattle.stream.proofs.linting.lint.Goals as goal

pub in_order-requires : goal.in_order-requires
in_order-requires c = λ i d below.
    let ids = c.as_slice.result.now in
    let x = get_or ids i d in
    (c.in_ok-ids.ensures x).0 (subst (λ l. Contains l x) c.as_slice.ensures.value (Contains-get_or ids i d below))

pub all_lost-requires : goal.all_lost-requires
all_lost-requires c =
    subst (λ l. (x : Id) → Contains l x ↔ IsInStream (choice c.first_vers-vers.result) x)
    (sym c.as_slice-2.ensures.value) c.in_ok-ids.ensures

pub unordered_pairs-requires : goal.unordered_pairs-requires
unordered_pairs-requires c =
    subst (IsOrder (choice c.first_vers-vers.result)) (sym c.as_slice-3.ensures.keys) c.in_ok-placed.ensures.order

pub returns : goal.returns
returns c =
    let vers = c.first_vers-vers.result in
    let by = choice vers in
    let placed = c.in_ok-placed.placed.keys in
    let order = c.in_ok-placed.ensures.order in
    let found : Findings = record {
      requisites = c.in_ok-lost.lost.requisites;
      elements = c.in_ok-lost.lost.elements;
      unordered = c.in_ok-unordered.unordered;
      remarks = c.in_ok-remarks.remarks;
    } in
    let there = λ (x : Id) (is : IsInStream by x). All-contains (Contains placed) c.as_slice.result.now x
    c.in_ok-placed.ensures.all
    (subst (λ l. Contains l x) (sym c.as_slice.ensures.value) ((c.in_ok-ids.ensures x).1 is)) in
    subst₂ (λ g c. TellBreaches g c found) c.first_vers-vers.ensures.global c.first_vers-vers.ensures.first (record {
      requisites = c.in_ok-lost.ensures.requisites;
      elements = c.in_ok-lost.ensures.elements;
      unordered = c.in_ok-unordered.ensures.pairs;
      ordered = ordered_from vers.global.now by placed c.in_ok-unordered.unordered.items
          (λ x. (λ h. order.stream x h, λ is. there x is)) c.in_ok-unordered.ensures.pairs
          (subst (λ l. HasFound c.in_ok-unordered.unordered.items ⊎ AreOrdered vers.global.now by l)
          c.as_slice-3.ensures.keys c.in_ok-unordered.ensures.none);
    })
