use Rattle.std.proofs.Common.{sym}
use Rattle.std.proofs.lemmas.Result.{IfOk-weaker}
use Rattle.sysmods.specs.Choices.{choice}
use Rattle.stream.proofs.Kept.{kept_outside}
use Rattle.stream.proofs.keeping.Suspects.kept_of.Goals as goal

pub returns : goal.returns
returns c =
    let vers = c.args.self.now.vers.now in
    IfOk-weaker c.outside.result _ _ (λ zs made. kept_outside vers.global.now (choice vers) c.args.y c.sup.result.now
    c.in-Some.suspects.now zs.items c.sup.ensures
    (c.requires c.args.y c.in-Some.suspects.now (sym c.in-Some.ensures.value)) made) c.outside.ensures
