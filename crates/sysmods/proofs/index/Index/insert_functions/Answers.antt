use Rattle.std.proofs.Common.{subst, ap, ◌∙◌, arith}
use Rattle.std.specs.Str.{bytes_eq}
use Rattle.sysmods.specs.Index.{HasAll}
use Rattle.sysmods.proofs.Indexed.{grows_then, has_all_more, has_all_one, has_all_map}
use Rattle.sysmods.proofs.index.Index.insert_functions.Goals as goal

pub loop-condition-preserved : goal.loop-condition-preserved
loop-condition-preserved c = record {
  has = has_all_more c.loop-condition.self.sets c.insert.new.self.sets c.args.namer (λ z i. bytes_eq z i.function)
      c.args.conditions.now c.loop-condition.condition-index c.condition-item.result (omega arith)
      c.in_ok-insert.ensures.grows c.loop-condition.invariant.has
      (subst (λ x. HasAll c.insert.new.self.sets c.args.namer (λ z. bytes_eq z x))
      (ap (λ i. i.function) (c.condition.view_is ∙ c.condition-item.is))
      (has_all_one c.insert.new.self.sets c.args.namer c.condition.inside.function c.in_ok-insert.ensures.has));
  grows = grows_then c.args.self.now.sets c.loop-condition.self.sets c.insert.new.self.sets
      c.loop-condition.invariant.grows c.in_ok-insert.ensures.grows;
}

pub returns-clause-has : goal.returns-clause-has
returns-clause-has c =
    has_all_map c.loop-condition.self.sets c.args.namer (λ i. i.function) c.args.conditions.now
    c.loop-condition.condition-index (omega arith) c.loop-condition.invariant.has
