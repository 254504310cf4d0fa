use Rattle.std.proofs.Common.{Bor}
use Rattle.terms.specs.Types.{Text}
use Rattle.smpe_json.specs.Documents.{group_value}
use Rattle.smpe_json.proofs.Listed.{seen_all}
use Rattle.smpe_json.proofs.summary.values_of_groups.Goals as goal

pub returns : goal.returns
returns c =
    seen_all (group_value c.args.members.now) (λ (x : Bor Text). x.now) c.args.names.now c.loop-name.name-index
    c.loop-name.values.items c.loop-name-test.false c.loop-name.invariant
