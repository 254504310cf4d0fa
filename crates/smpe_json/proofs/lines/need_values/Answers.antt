use Rattle.judge_system.specs.Views.{need_view}
use Rattle.smpe_json.specs.Lines.{need_value}
use Rattle.smpe_json.proofs.Listed.{seen_all}
use Rattle.smpe_json.proofs.lines.need_values.Goals as goal

pub returns : goal.returns
returns c =
    seen_all need_value need_view c.args.needs.now c.loop-need.need-index c.loop-need.values.items
    c.loop-need-test.false c.loop-need.invariant
