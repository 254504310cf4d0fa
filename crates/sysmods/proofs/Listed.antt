-- Holds that rise, put one after another, are their list.
use Rattle.std.proofs.Common.{◌≡◌, ◌∙◌, false, List, [], ◌∷◌, ◌++◌, sym, ap, subst, None, find, append_assoc}
use Rattle.std.proofs.Common.{append-nil, arith}
use Rattle.std.specs.Prelude.{All, IsTrue}
use Rattle.std.specs.declared.cmp.Ordering.TheVariants.{Less}
use Rattle.std.specs.Ordering.{is_lt, is_eq, ordering_reverse}
use Rattle.std.proofs.lemmas.List.Elements.{All-weaker}
use Rattle.terms.proofs.Booleans.{or_false}
use Rattle.terms.specs.Types.{Hold}
use Rattle.terms.specs.Global.{has_key, hold_cmp, marked}
use Rattle.terms.specs.Rising.{Rises, Splits, with_item}
use Rattle.terms.proofs.GlobalKept.{hold_cmp_total}
use Rattle.terms.proofs.HoldOrder.{has_key_ties}
use Rattle.terms.proofs.RisingLists.{with_item_new}
use Rattle.terms.proofs.Pairs.{AllPairs_parts}
use Rattle.terms.proofs.Orderings.{Less_from_is_lt}
use Rattle.terms.proofs.Searches.{find_over}
use Rattle.sysmods.specs.Lists.{held, with_hold, with_holds}

unmarked : (h : Hold) → marked None h ≡ h
unmarked h = ap (λ b. record h { internal = b }) (or_false h.internal)

-- one that stands behind all others comes in at the end
with_hold_last : (front : List Hold) (h : Hold) → All (λ y. IsTrue (is_lt (hold_cmp y h))) front
    → with_hold front h ≡ front ++ h ∷ []
with_hold_last front h low =
    let apart : All (λ y. has_key h.id h.kind h.reason y ≡ false) front =
    All-weaker (λ y. IsTrue (is_lt (hold_cmp y h))) (λ y. has_key h.id h.kind h.reason y ≡ false)
    (λ y less. sym (has_key_ties h.id h.kind h.reason y) ∙ ap is_eq
    (hold_cmp_total.antisymm h y ∙ ap ordering_reverse (Less_from_is_lt (hold_cmp y h) less))) front low in
    let none : held front h.id h.kind h.reason ≡ None =
    ap (find (has_key h.id h.kind h.reason)) (sym (append-nil front))
    ∙ find_over (has_key h.id h.kind h.reason) front [] apart in
    let splits : Splits hold_cmp (λ (o : Hold). o) h front [] = record {
      low = All-weaker (λ y. IsTrue (is_lt (hold_cmp y h))) (λ y. hold_cmp y h ≡ Less)
          (λ y less. Less_from_is_lt (hold_cmp y h) less) front low;
      high = λ i d below. absurd (omega arith);
    } in
    ap (λ was. with_item hold_cmp (λ o. o) front (marked was h)) none
    ∙ ap (λ one. with_item hold_cmp (λ o. o) front one) (unmarked h)
    ∙ ap (λ xs. with_item hold_cmp (λ o. o) xs h) (sym (append-nil front))
    ∙ with_item_new hold_cmp_total (λ (o : Hold). o) front [] h splits

pub with_holds_rising : (front hs : List Hold) → Rises hold_cmp (λ h. h) (front ++ hs)
    → with_holds front hs ≡ front ++ hs
with_holds_rising front [] rises = sym (append-nil front)
with_holds_rising front (h ∷ hs) rises =
    let low = (AllPairs_parts (λ a b. IsTrue (is_lt (hold_cmp a b))) front hs h rises).0 in
    let whole : (front ++ h ∷ []) ++ hs ≡ front ++ h ∷ hs = append_assoc front (h ∷ []) hs in
    ap (λ xs. with_holds xs hs) (with_hold_last front h low)
    ∙ with_holds_rising (front ++ h ∷ []) hs (subst (Rises hold_cmp (λ h. h)) (sym whole) rises)
    ∙ whole
