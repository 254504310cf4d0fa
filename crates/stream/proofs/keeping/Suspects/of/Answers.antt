use Rattle.std.proofs.Common.{sym, subst}
use Rattle.sysmods.specs.Choices.{choice}
use Rattle.stream.specs.Kept.{AreSuspects}
use Rattle.stream.proofs.Kept.{suspects_all}
use Rattle.stream.proofs.keeping.Suspects.of.Goals as goal

pub returns-in-Some : goal.returns-in-Some
returns-in-Some c =
    let vers = c.args.self.now.vers.now in
    subst (AreSuspects vers.global.now (choice vers) c.args.x) (sym c.as_slice.ensures.items)
    (c.requires c.args.x c.in-Some.list.now (sym c.in-Some.ensures.value))

pub returns-in-None : goal.returns-in-None
returns-in-None c =
    let vers = c.args.self.now.vers.now in
    suspects_all vers.global.now (choice vers) c.args.x c.sup.result.now c.sup.ensures
