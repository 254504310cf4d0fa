use Rattle.sysmods.specs.Choices.{choice}
use Rattle.stream.proofs.Kept.{kept_none}
use Rattle.stream.proofs.keeping.Suspects.kept_by.Goals as goal

pub loop-id-init : goal.loop-id-init
loop-id-init c =
    let vers = c.args.self.now.vers.now in
    kept_none vers.global.now (choice vers) c.args.x c.new-kept.result.keys c.new-kept.ensures.empty

pub loop-id-preserved : goal.loop-id-preserved
loop-id-preserved c = c.in_ok-add_kept.ensures c.loop-id.invariant
