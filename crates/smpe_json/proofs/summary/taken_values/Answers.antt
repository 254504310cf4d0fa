use Rattle.smpe_summary.specs.Views.{taken_view}
use Rattle.smpe_json.specs.Documents.{taken_value}
use Rattle.smpe_json.proofs.Listed.{seen_all}
use Rattle.smpe_json.proofs.summary.taken_values.Goals as goal

pub returns : goal.returns
returns c =
    seen_all taken_value taken_view c.args.taken_off.now c.loop-taken.taken-index c.loop-taken.values.items
    c.loop-taken-test.false c.loop-taken.invariant
