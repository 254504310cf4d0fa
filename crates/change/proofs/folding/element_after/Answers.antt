use Rattle.std.proofs.Common.{◌≡◌, ◌-◌, ◌∙◌, ℕ, List, length, take, drop, inr, All, AllPairs, Any, IsTrue, subst, sym}
use Rattle.std.proofs.Common.{ap, arith}
use Rattle.std.proofs.Common.{None, Some}
use Rattle.std.specs.Option.{option_copied}
use Rattle.std.proofs.lemmas.List.{take_all, length-drop}
use Rattle.std.proofs.lemmas.List.Elements.{All-drop}
use Rattle.std.proofs.lemmas.Result.{IfOk-weaker}
use Rattle.sysmods.specs.Choices.{choice}
use Rattle.terms.specs.Changes.{has_replacement}
use Rattle.terms.specs.Lookups.{has_change}
use Rattle.terms.specs.Over.{IsOver}
use Rattle.terms.specs.Types.{Id, Element}
use Rattle.change.specs.Folding.{IsFolded}
use Rattle.change.proofs.ChosenVers.{not_over_itself}
use Rattle.change.proofs.FoldEnd.{folded_after, folded_behind}
use Rattle.change.proofs.Ordered.{pairs_drop}
use Rattle.change.proofs.folding.element_after.Goals as goal

-- the slice from a place on
behind : (p : ℕ) (xs : List Id) → take (length xs - p) (drop p xs) ≡ drop p xs
behind p xs = take_all (length xs - p) (drop p xs) (omega (arith, length-drop p xs))

pub fold_changes-requires-clause-changers : goal.fold_changes-requires-clause-changers
fold_changes-requires-clause-changers c =
    let P : Id → Type 0 = λ x. IsTrue (has_change c.args.vers.now.global.now x c.args.elem_type c.args.name) in
    subst (All P) (sym (behind c.in-Some.place c.args.changers.now))
    (All-drop P c.in-Some.place c.args.changers.now c.requires.changers)

pub fold_changes-requires-clause-order : goal.fold_changes-requires-clause-order
fold_changes-requires-clause-order c =
    let R : Id → Id → Type 0 = λ x y. IsOver (choice c.args.vers.now) y x in
    subst (AllPairs R) (sym (behind c.in-Some.place c.args.changers.now))
    (pairs_drop R c.in-Some.place c.args.changers.now c.requires.order)

pub fold_changes-requires-clause-some : goal.fold_changes-requires-clause-some
fold_changes-requires-clause-some c =
    inr (subst (Any (λ x. IsTrue (has_replacement c.args.vers.now.global.now x c.args.elem_type c.args.name)))
    (sym (behind c.in-Some.place c.args.changers.now)) (rw c.global-2.ensures at c.in-Some.ensures.replaces))

pub returns-in-Some-clause-element : goal.returns-in-Some-clause-element
returns-in-Some-clause-element c =
    let g = c.args.vers.now.global.now in
    let chosen = choice c.args.vers.now in
    let xs = c.args.changers.now in
    let base = option_copied c.args.base in
    IfOk-weaker c.fold_changes.result _ _
    (λ e fold. λ i are. folded_after g chosen c.args.elem_type c.args.name xs base e c.requires.order
    (not_over_itself c.args.vers.now (rw c.global.ensures at c.attest.ensures))
    (folded_behind g chosen c.args.elem_type c.args.name xs c.in-Some.place base e
    (subst (λ l. IsFolded g chosen c.args.elem_type c.args.name l None (Some e))
    (behind c.in-Some.place xs) fold)) i are)
    c.fold_changes.ensures.folded

pub returns-in_ok-copy-in-None-clause-element : goal.returns-in_ok-copy-in-None-clause-element
returns-in_ok-copy-in-None-clause-element c =
    let g = c.args.vers.now.global.now in
    let chosen = choice c.args.vers.now in
    let xs = c.args.changers.now in
    let base = option_copied c.args.base in
    IfOk-weaker c.fold_changes-in-None.result _ _
    (λ e fold. λ i are. folded_after g chosen c.args.elem_type c.args.name xs base e c.requires.order
    (not_over_itself c.args.vers.now (rw c.global.ensures at c.attest.ensures))
    (subst (λ o. IsFolded g chosen c.args.elem_type c.args.name xs o (Some e))
    (ap (λ (e : Element). Some e) c.in_ok-copy-in-None.ensures ∙ sym (ap option_copied c.unwrap-base.ensures))
    fold) i are)
    c.fold_changes-in-None.ensures.folded
