use Rattle.std.proofs.Common.{◌∙◌, ◌+◌, subst, sym, arith}
use Rattle.std.proofs.lemmas.List.{take_all}
use Rattle.sysmods.specs.Choices.{choice}
use Rattle.terms.proofs.Ids.{Contains_from_is_in}
use Rattle.change.proofs.TakingEffect.{IsUnderWay, begun_next, seen_next, seen_begun, seen_all}
use Rattle.change.proofs.effective.all_superseded.Goals.{then-not-contains+in_ok-insert_named_in_sup-2}
use Rattle.change.proofs.effective.all_superseded.Goals.{else-not-contains}
use Rattle.change.proofs.effective.all_superseded.Goals as goal

pub loop-id-preserved : goal.loop-id-preserved
loop-id-preserved c =
    begun_next (choice c.args.vers.now) c.as_slice-id-items.result.now c.loop-id.id-index c.id-item.result
    c.loop-id.seen.keys c.insert_named_in_sup.new.seen.keys (omega arith) c.id-item.is
    c.in_ok-insert_named_in_sup.ensures
    c.loop-id.invariant

pub loop-searched-init : goal.loop-searched-init
loop-searched-init c =
    let by = choice c.args.vers.now in
    let items = c.as_slice-id-items.result.now in
    let seen = c.loop-id.seen.keys in
    subst (λ ids. IsUnderWay by ids ids seen 0) c.as_slice-id-items.ensures.items
    (subst (λ from. IsUnderWay by items from seen 0) (take_all c.loop-id.id-index items (omega arith))
    c.loop-id.invariant)

pub loop-searched-preserved : goal.loop-searched-preserved
loop-searched-preserved c =
    let by = choice c.args.vers.now in
    let ids = c.args.kept.now in
    let old = c.loop-searched.seen.keys in
    let n = c.loop-searched.searched in
    let y = c.index-as_slice-searched.result in
    let at = rw c.as_slice.ensures.keys at c.index-as_slice-searched.is in
    elim c.if-not-contains.branch [
      | then-not-contains+in_ok-insert_named_in_sup-2 w ↦
          subst (λ seen. IsUnderWay by ids ids seen.keys (n + 1)) (sym w.seen-is)
          (seen_next by ids old w.insert_named_in_sup-then-not-contains.new.seen.keys n y (omega arith) at
          w.in_ok-insert_named_in_sup-2.ensures c.loop-searched.invariant)
      | else-not-contains w ↦
          subst (λ seen. IsUnderWay by ids ids seen.keys (n + 1)) (sym w.seen-is)
          (seen_begun by ids old n y (omega arith) at
          (Contains_from_is_in ids y (sym c.contains.ensures ∙ w.if-not-contains.false)) c.loop-searched.invariant)
    ]

pub returns : goal.returns
returns c =
    seen_all (choice c.args.vers.now) c.args.kept.now c.loop-searched.seen.keys c.loop-searched.searched (omega arith)
    c.loop-searched.invariant
