use Rattle.std.proofs.Common.{◌≡◌, ◌∙◌, false, [], sym, take, arith}
use Rattle.std.proofs.lemmas.List.{take_all}
use Rattle.std.proofs.lemmas.List.Elements.{All-more, All-same}
use Rattle.std.proofs.lemmas.List.Folds.{list_any_none}
use Rattle.terms.specs.Commands.{runs_from}
use Rattle.terms.specs.Operands.{is_often}
use Rattle.rec80.specs.Cursors.{text_of}
use Rattle.cntl.proofs.runs.any_occurs_twice.Goals as goal

pub loop-name-preserved : goal.loop-name-preserved
loop-name-preserved c = λ some.
    All-more (λ name. is_often 2 (runs_from false [] (text_of c.args.list.now)) name.now ≡ false) c.args.names.now
    c.loop-name.name-index _ (omega arith) (c.loop-name.invariant some)
    (sym (c.occurs_twice.ensures (some c.loop-name.name-index _ (omega arith))) ∙ c.if-occurs_twice.false)

pub returns : goal.returns
returns c = λ some.
    let all : take c.loop-name.name-index c.args.names.now ≡ c.args.names.now =
    take_all c.loop-name.name-index c.args.names.now (omega arith) in
    let runs = runs_from false [] (text_of c.args.list.now) in
    sym (list_any_none (λ name. is_often 2 runs name.now) c.args.names.now
    (All-same (λ name. is_often 2 runs name.now ≡ false) c.args.names.now
    (take c.loop-name.name-index c.args.names.now) (sym all) (c.loop-name.invariant some)))
