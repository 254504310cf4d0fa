use Rattle.std.proofs.Common.{◌≡◌, [], ◌∷◌, sym, subst, arith}
use Rattle.sqlite.proofs.RunLemmas.{only_one}
use Rattle.store_schema.specs.Known.{GivesOwn}
use Rattle.store_schema.proofs.numbers.gives_only_number.Goals as goal

pub returns-then-rows-eq1 : goal.returns-then-rows-eq1
returns-then-rows-eq1 c =
    let row = c.index-rows-0.result in
    let one : c.args.rows.now ≡ row ∷ [] = only_one c.args.rows.now row (omega arith) c.index-rows-0.is in (
      λ yes. (row, one, c.gives_number.ensures.0 yes),
      λ own.
          c.gives_number.ensures.1 (subst (GivesOwn _) (let same = sym one in cc) own.2),
    )
