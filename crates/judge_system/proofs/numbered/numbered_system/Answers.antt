use Rattle.std.proofs.Common.{◌≤◌, length, arith, subst, take_all}
use Rattle.std.specs.Prelude.{Contains}
use Rattle.terms.proofs.Places.{All-found}
use Rattle.judge_system.specs.declared.stated.RequisiteOf.{RequisiteOf}
use Rattle.judge_system.specs.Numbered.{HasNeeds}
use Rattle.judge_system.proofs.NumberedNeeds.{needs_next}
use Rattle.judge_system.proofs.numbered.numbered_system.Goals as goal

pub loop-i-preserved : goal.loop-i-preserved
loop-i-preserved c =
    needs_next c.args.ids.now.keys c.in_ok-served.served.keys c.args.eligible.items c.args.stated.now c.loop-i.i
    c.item_at-need.result c.loop-i.system c.add_numbered_need.new.system c.item_at-need.ensures
    c.in_ok-add_numbered_need.ensures c.loop-i.invariant

pub returns : goal.returns
returns c =
    let whole : length c.args.stated.now ≤ c.loop-i.i = omega arith in record {
      pairs = c.in_ok-served.served.keys;
      served = c.in_ok-served.ensures;
      needs = subst (λ l. HasNeeds c.args.ids.now.keys c.in_ok-served.served.keys c.args.eligible.items l
          c.loop-i.system) (take_all c.loop-i.i c.args.stated.now whole) c.loop-i.invariant;
    }

pub add_numbered_need-requires-clause-of : goal.add_numbered_need-requires-clause-of
add_numbered_need-requires-clause-of c =
    All-found (λ (w : RequisiteOf). Contains c.args.ids.now.keys w.of) c.args.stated.now c.loop-i.i
    c.item_at-need.result c.requires.within c.item_at-need.ensures
