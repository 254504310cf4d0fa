use Rattle.std.proofs.Common.{◌≡◌, ◌∙◌, [], ◌∷◌, ◌++◌, IfSome, sym, ap, subst, subst₂, take}
use Rattle.std.proofs.lemmas.List.{take_more, take_all}
use Rattle.sysmods.specs.Choices.{choice}
use Rattle.terms.specs.Over.{IsOver}
use Rattle.change.specs.Folding.{IsFolded}
use Rattle.change.proofs.ChosenVers.{not_over_itself}
use Rattle.change.proofs.FoldEnd.{folded_none, folded_some}
use Rattle.change.proofs.FoldSteps.{fold_more, step_by}
use Rattle.change.proofs.Ordered.{newest}
use Rattle.change.proofs.folding.fold_changes.Goals as goal

pub loop-id-init : goal.loop-id-init
loop-id-init c = record {
  folded = folded_none c.args.vers.now.global.now (choice c.args.vers.now) c.args.elem_type c.args.name c.args.start
      c.requires.rising;
  keyed = c.requires.start;
}

pub loop-id-preserved : goal.loop-id-preserved
loop-id-preserved c =
    let g = c.args.vers.now.global.now in
    let chosen = choice c.args.vers.now in
    let xs = c.args.changers.now in
    let k = c.loop-id.id-index in
    let x = c.id-item.result in
    let below = c.loop-id-test.true in
    let new = c.in_ok-element.element in
    let statement = c.known_change-change.ensures in
    record {
      folded = subst
          (λ l. IsFolded g chosen c.args.elem_type c.args.name l c.args.start new)
          (ap (λ v. take k xs ++ v ∷ []) c.id-item.is ∙ sym (take_more xs k x below))
          (fold_more g chosen c.args.elem_type c.args.name (take k xs) x c.args.start c.loop-id.element new
          (newest (λ v w. IsOver chosen w v) xs k x c.requires.order below c.id-item.is)
          (not_over_itself c.args.vers.now (rw c.global.ensures at c.attest.ensures) x) c.loop-id.invariant.folded
          (step_by g chosen c.args.elem_type c.args.name x c.owner.result c.known_change-change.result.now
          c.loop-id.element new (rw c.global-in-loop-id.ensures at statement.change) statement.elem_type statement.name
          c.owner.ensures c.in_ok-element.ensures.made));
      keyed = subst₂ (λ type name. IfSome new (λ e. (e.elem_type ≡ type) × (e.name ≡ name))) statement.elem_type
          statement.name c.in_ok-element.ensures.new;
    }

pub unwrap-requires : goal.unwrap-requires
unwrap-requires c =
    let g = c.args.vers.now.global.now in
    let chosen = choice c.args.vers.now in
    folded_some g chosen c.args.elem_type c.args.name c.args.changers.now c.args.start c.loop-id.element
    (subst (λ l. IsFolded g chosen c.args.elem_type c.args.name l c.args.start c.loop-id.element)
    (take_all c.loop-id.id-index c.args.changers.now c.loop-id-test.false) c.loop-id.invariant.folded)
    c.requires.some

pub returns-clause-folded : goal.returns-clause-folded
returns-clause-folded c =
    let g = c.args.vers.now.global.now in
    let chosen = choice c.args.vers.now in
    subst (λ o. IsFolded g chosen c.args.elem_type c.args.name c.args.changers.now c.args.start o) c.unwrap.ensures
    (subst (λ l. IsFolded g chosen c.args.elem_type c.args.name l c.args.start c.loop-id.element)
    (take_all c.loop-id.id-index c.args.changers.now c.loop-id-test.false) c.loop-id.invariant.folded)
