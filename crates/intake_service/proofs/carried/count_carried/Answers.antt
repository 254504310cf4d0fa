use Rattle.std.proofs.Common.{◌≡◌, ◌<◌, ◌+◌, ◌∙◌, ◌++◌, ◌∷◌, [], ℕ, Bool, List, ap, sym, cond, filter, length, take, get_or}
use Rattle.std.proofs.Common.{arith}
use Rattle.std.proofs.lemmas.List.{length-append, take_all, take_more}
use Rattle.std.proofs.lemmas.List.Elements.{filter-append}
use Rattle.mcs.specs.declared.file.Item.{Item}
use Rattle.intake_service.specs.Carrying.{is_sysmod}
use Rattle.intake_service.proofs.carried.count_carried.Goals as goal

one_more : (items : List Item) (i : ℕ) (item : Item) (is : Bool) → i < length items → item ≡ get_or items i item
    → is_sysmod item ≡ is → length (filter is_sysmod (take (i + 1) items))
    ≡ length (filter is_sysmod (take i items)) + length (cond is (item ∷ []) [])
one_more items i item is below at e =
    ap (λ l. length (filter is_sysmod l))
    (take_more items i item below ∙ ap (λ x. take i items ++ x ∷ []) (sym at))
    ∙ ap length (filter-append is_sysmod (take i items) (item ∷ []))
    ∙ length-append (filter is_sysmod (take i items)) (filter is_sysmod (item ∷ []))
    ∙ ap (λ b. length (filter is_sysmod (take i items)) + length (cond b (item ∷ []) [])) e

pub loop-item-preserved-then-not-is_sysmod : goal.loop-item-preserved-then-not-is_sysmod
loop-item-preserved-then-not-is_sysmod c =
    let grown = one_more c.args.items.now c.loop-item.item-index c.item-item.result _ (omega arith) c.item-item.is
    (sym c.is_sysmod.ensures ∙ c.if-not-is_sysmod.true) in
    let was = c.loop-item.invariant in
    grind (arith, grown, was)

pub loop-item-preserved : goal.loop-item-preserved
loop-item-preserved c =
    let grown = one_more c.args.items.now c.loop-item.item-index c.item-item.result _ (omega arith) c.item-item.is
    (sym c.is_sysmod.ensures ∙ c.if-not-is_sysmod.false) in
    let was = c.loop-item.invariant in
    grind (arith, grown, was)

pub returns : goal.returns
returns c =
    c.loop-item.invariant ∙ ap (λ l. length (filter is_sysmod l))
    (take_all c.loop-item.item-index c.args.items.now (omega arith))
