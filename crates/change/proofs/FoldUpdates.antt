-- One update of an element.
use Rattle.std.proofs.Common.{◌≡◌, ◌⊎◌, sym, subst, Contains}
use Rattle.std.specs.Prelude.{◌↔◌}
use Rattle.std.specs.Ordering.{nat_cmp}
use Rattle.std.specs.Cmp.Lexicographic.{slice_cmp}
use Rattle.terms.specs.Types.{Id, Lines, Element}
use Rattle.terms.specs.Lookups.{IsRising}
use Rattle.terms.specs.Rising.{with_item}
use Rattle.terms.specs.Texts.{IsMerge}
use Rattle.change.specs.Folding.{IsUpdateOf}
use Rattle.change.proofs.Gathered.{in_with_item}

-- an element with the merged text and one UMID more
pub update_made : (x : Id) (update : Lines) (was old e : Element) → was ≡ old
    → e ≡ record was { umids = e.umids; text = e.text } → IsRising e.umids
    → e.umids ≡ with_item (slice_cmp nat_cmp) (λ y. y) was.umids x → IsMerge was.text update e.text
    → IsUpdateOf x update old e
update_made x update was old e same rest rising umids merged =
    subst (λ o. IsUpdateOf x update o e) same (record {
      rest = rest;
      rising = rising;
      umids = λ z. subst (λ l. Contains l z ↔ (Contains was.umids z ⊎ (x ≡ z))) (sym umids)
          (in_with_item was.umids x z);
      merged = merged;
    })
