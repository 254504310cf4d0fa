use Rattle.std.proofs.Common.{◌∙◌, Some}
use Rattle.sysmods.proofs.NamersFor.{names_at}
use Rattle.sysmods.proofs.received.Received.names_for.Goals as goal

pub returns-in-Some : goal.returns-in-Some
returns-in-Some c = c.names_for.ensures ∙ names_at c.args.self.now c.args.srel c.args.id c.args.namer
    (Some c.in-Some.sysmod.now) c.in-Some.ensures
