use Rattle.smpe_summary.proofs.Partition.{each_has_one_group}
use Rattle.smpe_summary.proofs.laws.each_has_one_group.Goals as goal

pub returns : goal.returns
returns c = each_has_one_group
