-- The derived order of types and names of elements is total, and ties no two of them.
use Rattle.std.proofs.Common.{◌≡◌, ◌∙◌, sym, ap}
use Rattle.std.specs.Ordering.{is_eq}
use Rattle.std.specs.Cmp.{IsTotalOrder}
use Rattle.std.proofs.lemmas.Map.Lookups.{CmpEqualImpliesEq}
use Rattle.terms.specs.Lookups.{element_eq}
use Rattle.terms.proofs.ElementOrder.{cmp_keys, element_cmp_total, element_ties, same_key}
use Rattle.sorted.specs.ElementKeys.{Key, key_cmp}

pub key_ties : (a b : Key) → is_eq (key_cmp a b) ≡ element_eq a b
key_ties a b = ap is_eq (cmp_keys a b) ∙ sym (element_ties a b)

pub key_exact : CmpEqualImpliesEq key_cmp
key_exact a b tied = same_key a b (sym (key_ties a b) ∙ ap is_eq tied)

pub key_total : IsTotalOrder key_cmp
key_total = record {
  antisymm = λ a b. rw (cmp_keys a b, cmp_keys b a) (element_cmp_total.antisymm a b);
  trans = λ a b c p q. cmp_keys a c ∙ element_cmp_total.trans a b c (sym (cmp_keys a b) ∙ p) (sym (cmp_keys b c) ∙ q);
  congr = λ a b c p. cmp_keys a c ∙ element_cmp_total.congr a b c (sym (cmp_keys a b) ∙ p) ∙ sym (cmp_keys b c);
}
