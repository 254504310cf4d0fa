use Rattle.std.proofs.Common.{◌∙◌, length, ap, sym, subst}
use Rattle.std.proofs.lemmas.List.{length-map}
use Rattle.solve.specs.Least.{IsRule}
use Rattle.solve.specs.Rules.{as_rule}
use Rattle.undo.specs.ByNumbers.{Covers}
use Rattle.undo.specs.Steps.{is_start}
use Rattle.undo.proofs.RulesOfSteps.{one_more}
use Rattle.undo.proofs.numbered.rules_of_steps.Goals as goal

pub rule_of-requires-clause-covers : goal.rule_of-requires-clause-covers
rule_of-requires-clause-covers c =
    subst (Covers c.args.table.now) (sym c.step-item.is)
    (c.requires c.loop-step.step-index c.step-item.result c.loop-step-test.true)

pub add_rule-requires : goal.add_rule-requires
add_rule-requires c =
    subst (λ n. IsRule n (as_rule c.in_ok-rule_of.field-0))
    (sym (ap length c.loop-step.invariant.start ∙ length-map c.args.table.now (is_start c.args.ids.now)))
    c.in_ok-rule_of.ensures.valid

pub loop-step-preserved : goal.loop-step-preserved
loop-step-preserved c =
    one_more c.args.table.now c.args.ids.now c.args.steps.now c.loop-step.step-index c.step-item.result
    c.loop-step.rules c.add_rule.new.self c.loop-step-test.true c.step-item.is c.loop-step.invariant
    (record {
      rule = as_rule c.in_ok-rule_of.field-0;
      numbered = c.in_ok-rule_of.ensures.numbered;
      new_is = c.in_ok-add_rule.ensures.ok;
    })
