use Rattle.std.proofs.Common.{◌≡◌, ◌<◌, ◌-◌, ◌∙◌, All, arith, drop, length, get_or, subst, sym, true≢false}
use Rattle.std.proofs.lemmas.List.{get_or_default}
use Rattle.sysmods.specs.Choices.{choice}
use Rattle.terms.specs.Over.{IsOver}
use Rattle.change.proofs.Ordered.{back_from}
use Rattle.change.proofs.ordering.find_place.Goals.{then-branch, else-branch}
use Rattle.change.proofs.ordering.find_place.Goals as goal

pub loop-low-preserved : goal.loop-low-preserved
loop-low-preserved c =
    let over = IsOver (choice c.args.overs.now) in
    let x = c.args.id in
    let xs = c.args.ordered.now in
    let was = c.loop-low.invariant in
    let m = c.loop-low.middle in
    let asked = rw was.overs at c.in_ok-over.ensures.over in
    let inside : m < c.loop-low.high = was.most c.loop-low-test.true in
    let below : m < length xs = omega (arith, inside, was.within) in
    let at : c.index-ordered-middle.result ≡ get_or xs m x =
    c.index-ordered-middle.is ∙ get_or_default xs m c.index-ordered-middle.result x below in
    record {
      overs = c.in_ok-over.ensures.same ∙ was.overs;
      bounds = elim c.if-branch.branch [
        | then-branch w ↦ omega (arith, inside, w.low-is, w.high-is)
        | else-branch w ↦ omega (arith, was.least, w.low-is, w.high-is)
      ];
      within = elim c.if-branch.branch [
        | then-branch w ↦ omega (arith, was.within, w.high-is)
        | else-branch w ↦ omega (arith, below, w.high-is)
      ];
      least = omega arith;
      most = λ less. omega (arith, less);
      front = λ some. elim c.if-branch.branch [
        | then-branch w ↦
            let same : m ≡ c.if-branch.low - 1 = omega (arith, w.low-is) in
            subst (λ k. over x (get_or xs k x)) same (subst (over x) at (asked.0 w.if-branch.true))
        | else-branch w ↦
            subst (λ k. over x (get_or xs (k - 1) x)) (sym w.low-is) (was.front (omega (arith, some, w.low-is)))
      ];
      back = elim c.if-branch.branch [
        | then-branch w ↦ subst (λ k. All (λ y. ¬ over x y) (drop k xs)) (sym w.high-is) was.back
        | else-branch w ↦ subst (λ k. All (λ y. ¬ over x y) (drop k xs)) (sym w.high-is)
            (back_from (choice c.args.overs.now) xs m x c.requires below
            (λ is. true≢false (sym (asked.1 (subst (over x) (sym at) is)) ∙ w.if-branch.false)))
      ];
    }

pub returns-clause-back : goal.returns-clause-back
returns-clause-back c =
    let met : c.loop-low.high ≡ c.loop-low.low =
    omega (arith, c.loop-low-test.false, c.loop-low.invariant.bounds) in
    subst (λ k. All (λ x. ¬ IsOver (choice c.args.overs.now) c.args.id x) (drop k c.args.ordered.now)) met
    c.loop-low.invariant.back
