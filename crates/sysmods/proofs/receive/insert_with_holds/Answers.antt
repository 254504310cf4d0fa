use Rattle.std.proofs.Common.{ap}
use Rattle.sysmods.proofs.Taken.{put_back}
use Rattle.sysmods.proofs.receive.insert_with_holds.Goals as goal

pub returns-in-Err-clause-err : goal.returns-in-Err-clause-err
returns-in-Err-clause-err c = (
  put_back c.args.sysmods.now c.insert.new.self c.remove.new.self c.args.sysmod c.take_holds-inside.new.self
      c.sysmod.inside.id
      c.insert.ensures.rising c.requires c.take_holds-inside.ensures.rest (ap (λ s. s.id) c.sysmod.view_is)
      c.in_ok-insert.ensures.ok c.remove.ensures.after,
  c.in-Err.ensures.err,
)
