use Rattle.std.proofs.Common.{subst}
use Rattle.std.specs.List.{All}
use Rattle.std.proofs.lemmas.List.Elements.{All-head}
use Rattle.terms.specs.Texts.{IsNumberedLine}
use Rattle.text80.proofs.merging.split_number.Goals as goal

pub known_number-requires : goal.known_number-requires
known_number-requires c =
    All-head IsNumberedLine c.in-Some.first.now c.in-Some.more.now
    (subst (All IsNumberedLine) c.in-Some.ensures.cases.0 c.requires)
