use Rattle.std.proofs.Common.{List, Bool, [], ap}
use Rattle.solve.specs.Least.{Growth}
use Rattle.terms.proofs.Booleans.{turned_twice}
use Rattle.solve.proofs.growth.Rules.new.Goals as goal

pub returns : goal.returns
returns c =
    let start = c.args.start.now in
    let grown : List Bool → Growth = λ flags. record { start = flags; rules = [] } in
    rw (c.in_ok-outside.ensures.ok, c.in_ok-eligible.ensures) (ap grown (turned_twice start))
