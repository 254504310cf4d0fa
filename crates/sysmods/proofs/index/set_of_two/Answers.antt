use Rattle.sysmods.proofs.Indexed.{in_more}
use Rattle.sysmods.proofs.index.set_of_two.Goals as goal

pub returns-clause-second : goal.returns-clause-second
returns-clause-second c =
    in_more c.insert.new.self c.insert-2.new.self c.args.second c.in_ok-insert-2.ensures.updates
