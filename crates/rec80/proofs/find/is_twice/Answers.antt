use Rattle.rec80.proofs.Naming.{twice_is}
use Rattle.rec80.proofs.find.is_twice.Goals as goal

pub returns : goal.returns
returns c = twice_is c.args.name.now c.args.words.now c.count_of.result c.count_of.ensures
