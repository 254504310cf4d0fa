use Rattle.std.proofs.Common.{subst}
use Rattle.sysmods.specs.Choices.{choice}
use Rattle.sysmods.specs.Overs.{AreOver}
use Rattle.sysmods.proofs.overs.Overs.into_known.Goals as goal

pub returns : goal.returns
returns c = subst (λ v. AreOver (choice v) c.self.inside.known.keys) c.self.view_is c.self.invariant.known
