use Rattle.std.proofs.Common.{◌≡◌, ◌≤◌, ◌<◌, ◌+◌, ◌-◌, ◌∙◌, false, sym, ap, subst, length, arith}
use Rattle.std.specs.Prelude.{All, Contains, replicate}
use Rattle.std.proofs.lemmas.List.{length-replicate}
use Rattle.sysmods.specs.Graphs.{IsSearchDown, LeadsDown, Marks, list_at}
use Rattle.sysmods.proofs.Descents.{all_within, leads_at_once, list_is, mark_read, search_start, search_end}
use Rattle.sysmods.proofs.descent.leads_down.Goals as goal

pub returns-then-none_above : goal.returns-then-none_above
returns-then-none_above c =
    let successors = c.args.successors.now in
    let high = c.args.high in
    let low = c.args.low in
    let same = c.as_slice-firsts.ensures.value
    ∙ sym (list_is successors high c.index-successors-high.result c.requires.high c.index-successors-high.is) in
    let none = subst (All (λ n. n ≤ low)) same (c.none_above.ensures.0 c.if-none_above.true) in
    let at_once = leads_at_once (list_at successors) c.requires.falling high low none in (
      λ on. at_once.0 (subst (λ l. Contains l low) same (c.has_number.ensures.0 on)),
      λ down. c.has_number.ensures.1 (subst (λ l. Contains l low) (sym same) (at_once.1 down)),
    )

pub mark_numbers-requires : goal.mark_numbers-requires
mark_numbers-requires c =
    let marks = c.in_ok-marks.marks.items in
    let made : marks ≡ replicate c.args.high false = c.in_ok-marks.ensures.items_if_clones_equal search in
    let room : length marks ≡ c.args.high = ap length made ∙ length-replicate c.args.high false in
    subst (All (λ n. n < length marks)) (sym c.as_slice-firsts.ensures.value)
    (all_within c.args.successors.now c.args.high (length marks) c.index-successors-high.result c.requires.falling
    c.requires.high c.index-successors-high.is (omega (arith, room)))

pub loop-next-init : goal.loop-next-init
loop-next-init c =
    let successors = c.args.successors.now in
    let high = c.args.high in
    let old = c.in_ok-marks.marks.items in
    let new = c.mark_numbers.new.marks.items in
    let made : old ≡ replicate high false = c.in_ok-marks.ensures.items_if_clones_equal search in
    let same = c.as_slice-firsts.ensures.value
    ∙ sym (list_is successors high c.index-successors-high.result c.requires.high c.index-successors-high.is) in
    record {
      search = search_start (list_at successors) high new
          (subst (λ l. Marks l (replicate high false) new) same
          (subst (λ o. Marks c.as_slice-firsts.result.now o new) made c.mark_numbers.ensures));
      within = omega arith;
    }

pub loop-next-preserved : goal.loop-next-preserved
loop-next-preserved c =
    let next = c.loop-next.next in
    let same : next ≡ next - 1 + 1 = omega (arith, c.loop-next-test.true) in
    record {
      search = c.mark_successors.ensures c.args.high
          (subst (λ n. IsSearchDown (list_at c.args.successors.now) c.args.high n c.loop-next.marks.items) same
          c.loop-next.invariant.search);
      within = omega (arith, c.loop-next.invariant.within);
    }

pub returns : goal.returns
returns c =
    let marks = c.loop-next.marks.items in
    let s = c.loop-next.invariant.search in
    let told = mark_read marks c.args.low c.index-2.result.now (omega (arith, s.room, c.requires.low))
    c.index-2.ensures in
    let end = search_end (list_at c.args.successors.now) c.requires.falling c.args.high c.args.low c.loop-next.next
    marks (omega (arith, c.loop-next-test.false)) s in
    (λ on. end.0 (told ∙ on), λ down. sym told ∙ end.1 down)
