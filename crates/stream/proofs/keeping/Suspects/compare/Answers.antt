use Rattle.sysmods.specs.Choices.{choice}
use Rattle.stream.proofs.Kept.{known_next, suspects_alike, suspects_left}
use Rattle.stream.proofs.keeping.Suspects.compare.Goals as goal

pub returns-clause-known : goal.returns-clause-known
returns-clause-known c =
    let vers = c.args.self.now.vers.now in
    let g = vers.global.now in
    let by = choice vers in
    let x = c.args.x in
    let left = c.in_ok-left.left.items in
    known_next g by c.args.self.now.lists c.insert.new.self x c.from_vec.result c.in_ok-insert.ensures.updates c.requires
    (suspects_alike g by x left c.from_vec.result c.from_vec.ensures.members
    (suspects_left g by x c.sup.result.now c.in_ok-kept.kept.keys left c.sup.ensures c.in_ok-kept.ensures
    c.in_ok-left.ensures))
