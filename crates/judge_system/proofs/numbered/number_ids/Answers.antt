use Rattle.std.proofs.Common.{◌∙◌, ◌≤◌, ◌+◌, length, arith, ap, subst, sym, take, take_all}
use Rattle.terms.specs.Lookups.{IsRising}
use Rattle.judge_system.proofs.Numbering.{number_next}
use Rattle.judge_system.proofs.numbered.number_ids.Goals as goal

pub loop-id-preserved : goal.loop-id-preserved
loop-id-preserved c =
    let items = c.as_slice-id-items.result.now in
    let same = c.as_slice-id-items.ensures.items in
    let i = c.loop-id.id-index in
    number_next items c.as_slice-id-items.ensures.rising i c.id-item.result c.loop-id.numbered.keys
    c.insert.new.self.keys (omega arith) c.id-item.is c.in_ok-insert.ensures.keys
    (c.loop-id.invariant ∙ ap (take i) (sym same))
    ∙ ap (take (i + 1)) same

pub returns-clause-ids : goal.returns-clause-ids
returns-clause-ids c =
    let whole : length c.args.ids.now ≤ c.loop-id.id-index =
    omega (arith, ap length c.as_slice-id-items.ensures.items) in
    c.loop-id.invariant ∙ take_all c.loop-id.id-index c.args.ids.now whole

pub returns-clause-rising : goal.returns-clause-rising
returns-clause-rising c =
    subst IsRising (c.as_slice-id-items.ensures.items ∙ sym (returns-clause-ids c)) c.as_slice-id-items.ensures.rising

pub returns-clause-few : goal.returns-clause-few
returns-clause-few c = omega (arith, ap length (returns-clause-ids c), c.len.ensures, c.if-len-gt-MOST_CANDIDATES.false)
