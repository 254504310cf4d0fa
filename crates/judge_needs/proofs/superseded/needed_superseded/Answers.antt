use Rattle.std.proofs.Common.{◌≤◌, ◌∙◌, ap, arith, filter, length, subst, take_all}
use Rattle.terms.specs.Lookups.{is_in}
use Rattle.sysmods.specs.Choices.{choice}
use Rattle.judge_needs.specs.Closures.{AreEnough}
use Rattle.judge_needs.proofs.Closing.{AddsAll, all_below, below_none, below_next}
use Rattle.judge_needs.proofs.superseded.needed_superseded.Goals as goal

pub loop-other-init : goal.loop-other-init
loop-other-init c = below_none (choice c.args.vers.now) c.args.needed.now c.in_ok-found.found.items

pub loop-other-preserved : goal.loop-other-preserved
loop-other-preserved c =
    below_next (choice c.args.vers.now) c.args.needed.now c.as_slice-other-items.result.now c.loop-other.other-index
    c.other-item.result c.in_ok-found.found.items c.loop-other.found.items c.append_needed_superseded.new.found.items
    (omega arith) c.other-item.is c.loop-other.invariant c.in_ok-append_needed_superseded.ensures

pub returns : goal.returns
returns c z =
    let ch = choice c.args.vers.now in
    let needed = c.args.needed.now in
    let some = c.in_ok-enough.enough.items in
    let start = c.in_ok-found.found.items in
    let found = c.loop-other.found.items in
    let whole : length c.as_slice-other-items.result.now ≤ c.loop-other.other-index = omega arith in
    let both =
    all_below ch needed c.args.id some start found
    (subst (λ l. AreEnough ch l some) c.sup-named.ensures c.in_ok-enough.ensures)
    (c.in_ok-found.ensures ∙ ap (filter (is_in needed)) c.sup-named.ensures)
    (subst (λ l. AddsAll ch needed l start found)
    (take_all c.loop-other.other-index c.as_slice-other-items.result.now whole
    ∙ c.as_slice-other-items.ensures.value) c.loop-other.invariant) z in
    (λ h. both.0 ((c.from_vec.ensures.members z).0 h), λ h. (c.from_vec.ensures.members z).1 (both.1 h))
