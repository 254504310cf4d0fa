use Rattle.std.proofs.lemmas.Bool.Decides.{Decides-eqb}
use Rattle.std.proofs.lemmas.Slice.Eq.{strip_prefix_is}
use Rattle.text80.proofs.ControlCuts.{some_behind, none_behind}
use Rattle.text80.proofs.control.text_after.Goals as goal

pub returns-clause-some : goal.returns-clause-some
returns-clause-some c =
    some_behind c.args.text.now c.args.prefix.now c.strip_prefix.result
    (strip_prefix_is Decides-eqb c.args.text.now c.args.prefix.now c.strip_prefix.result
    c.strip_prefix.ensures.cases)

pub returns-clause-none : goal.returns-clause-none
returns-clause-none c =
    none_behind c.args.text.now c.args.prefix.now c.strip_prefix.result
    (strip_prefix_is Decides-eqb c.args.text.now c.args.prefix.now c.strip_prefix.result
    c.strip_prefix.ensures.cases)
