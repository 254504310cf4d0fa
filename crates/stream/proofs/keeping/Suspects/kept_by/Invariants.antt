use Rattle.sysmods.specs.Choices.{choice}
use Rattle.stream.specs.Kept.{AreKept}
use Rattle.stream.proofs.keeping.Suspects.kept_by.Given as goal

abbrev pub invariant-loop-id : goal.invariant-loop-id
invariant-loop-id l = AreKept l.self.vers.now.global.now (choice l.self.vers.now) l.x l.kept.keys
