use Rattle.sysmods.specs.Choices.{choice}
use Rattle.stream.proofs.Kept.{known_none}
use Rattle.stream.proofs.keeping.Suspects.new.Goals as goal

pub returns-clause-known : goal.returns-clause-known
returns-clause-known c =
    known_none c.args.vers.now.global.now (choice c.args.vers.now) c.new-lists.result c.new-lists.ensures.empty
