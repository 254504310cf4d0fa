use Rattle.std.proofs.Common.{subst, IsTrue}
use Rattle.terms.specs.Lookups.{is_in}
use Rattle.sysmods.specs.Index.{members}
use Rattle.sysmods.proofs.Indexed.{in_more, keeps_more, keeps_one}
use Rattle.sysmods.proofs.index.IndexEntry.insert.Goals as goal

pub returns-in-More-clause-has : goal.returns-in-More-clause-has
returns-in-More-clause-has c =
    in_more c.in-More.set c.insert.new.self c.args.namer c.in_ok-insert-in-More.ensures.updates

pub returns-in-More-clause-grows : goal.returns-in-More-clause-grows
returns-in-More-clause-grows c y h =
    keeps_more c.in-More.set c.insert.new.self c.args.namer c.in_ok-insert-in-More.ensures.updates y
    (subst (λ n. IsTrue (is_in (members n) y)) c.in-More.is h)

pub returns-clause-has : goal.returns-clause-has
returns-clause-has c = c.in_ok-set.ensures.second

pub returns-clause-grows : goal.returns-clause-grows
returns-clause-grows c y h =
    keeps_one c.in-One.first c.in_ok-set.set c.in_ok-set.ensures.first y
    (subst (λ n. IsTrue (is_in (members n) y)) c.in-One.is h)
