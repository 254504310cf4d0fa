use Rattle.smpe_summary.specs.Views.{cause_view}
use Rattle.smpe_json.specs.Documents.{cause_value}
use Rattle.smpe_json.proofs.Listed.{seen_all}
use Rattle.smpe_json.proofs.summary.cause_values.Goals as goal

pub returns : goal.returns
returns c =
    seen_all cause_value cause_view c.args.causes.now c.loop-cause.cause-index c.loop-cause.values.items
    c.loop-cause-test.false c.loop-cause.invariant
