use Rattle.std.proofs.lemmas.Result.{IfOk-weaker}
use Rattle.intake_holds.proofs.Adding.{adds_none, adds_then, adds_kept}
use Rattle.intake_holds.proofs.outside.read_statements.Goals as goal

pub loop-init : goal.loop-init
loop-init c = adds_none c.args.held.now c.new-reader.result.held.items c.new-reader.ensures

pub loop-preserved : goal.loop-preserved
loop-preserved c =
    adds_then c.args.held.now c.loop.held c.carry_if_any.new.self c.in_ok-read_card.field-0 c.loop.reader.held.items
    c.read_card.new.self.held.items c.in_ok-read_card.ensures c.in_ok-carry_if_any.ensures c.loop.invariant

pub returns : goal.returns
returns c =
    IfOk-weaker c.into_file.result _ _ (λ file e.
    adds_kept c.args.held.now c.carry_if_any-2.new.self c.end_file.new.self c.read_end.new.self.held.items
    file.held.items e c.in_ok-end_file.ensures
    (adds_then c.args.held.now c.loop.held c.carry_if_any-2.new.self c.in_ok-read_end.field-0
    c.loop.reader.held.items c.read_end.new.self.held.items c.in_ok-read_end.ensures c.in_ok-carry_if_any-2.ensures
    c.loop.invariant)) c.into_file.ensures
