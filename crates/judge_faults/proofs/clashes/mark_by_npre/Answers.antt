use Rattle.std.proofs.Common.{◌≤◌, ◌∙◌, arith, length, refl, sym, subst, take_all}
use Rattle.std.proofs.lemmas.Option.{slice_get_read}
use Rattle.sysmods.specs.Choices.{choice}
use Rattle.judge_faults.specs.Sharing.{Marks}
use Rattle.judge_faults.specs.Forbidding.{IsOfOne}
use Rattle.judge_faults.proofs.Naming.{by_this, one_next}
use Rattle.judge_faults.proofs.clashes.mark_by_npre.Goals as goal

pub item_at-requires : goal.item_at-requires
item_at-requires c = omega (arith, c.requires.below, c.requires.are.lengths)

pub loop-other-preserved : goal.loop-other-preserved
loop-other-preserved c =
    one_next c.args.ids.now c.args.faults.now c.args.place c.index-ids-place.result c.npre-named.result.now
    c.loop-other.other-index c.other-item.result c.args.marked.now.keys c.loop-other.marked.keys
    c.mark_npre_pair.new.marked.keys (omega arith) c.other-item.is c.loop-other.invariant c.in_ok-mark_npre_pair.ensures

pub returns : goal.returns
returns c =
    let ids = c.args.ids.now in
    let faults = c.args.faults.now in
    let place = c.args.place in
    let id = c.index-ids-place.result in
    let old = c.args.marked.now.keys in
    let new = c.loop-other.marked.keys in
    let named = c.npre-named.result.now in
    let whole : length named ≤ c.loop-other.other-index = omega arith in
    by_this ids faults (choice c.args.vers.now) place id c.item_at.result old new
    (slice_get_read ids (length ids) place id refl c.requires.below c.index-ids-place.is) c.item_at.ensures
    (sym c.passes.ensures ∙ c.if-not-passes.false)
    (subst (λ l. Marks (IsOfOne ids faults place id l) old new)
    (take_all c.loop-other.other-index named whole ∙ c.npre-named.ensures) c.loop-other.invariant)
