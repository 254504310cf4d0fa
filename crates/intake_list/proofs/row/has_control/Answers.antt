use Rattle.std.proofs.Common.{◌∙◌, sym, arith}
use Rattle.intake_list.specs.Rows.{begins_page}
use Rattle.intake_list.proofs.Rest.{any_here, any_more, any_none}
use Rattle.intake_list.proofs.row.has_control.Goals as goal

pub returns-then-begins_page : goal.returns-then-begins_page
returns-then-begins_page c =
    any_here begins_page c.args.lines.now c.loop-line.line-index _ _ c.loop-line-test.true
    (sym c.begins_page.ensures ∙ c.if-begins_page.true) c.loop-line.invariant

pub loop-line-preserved : goal.loop-line-preserved
loop-line-preserved c =
    any_more begins_page c.args.lines.now c.loop-line.line-index _ _ c.loop-line-test.true
    (sym c.begins_page.ensures ∙ c.if-begins_page.false) c.loop-line.invariant

pub returns : goal.returns
returns c = any_none begins_page c.args.lines.now c.loop-line.line-index _ (omega arith) c.loop-line.invariant
