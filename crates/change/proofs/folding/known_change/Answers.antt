use Rattle.std.proofs.Common.{◌∙◌, sym, ap}
use Rattle.std.specs.Prelude.{option_copied}
use Rattle.terms.proofs.ChangedElements.{change_there}
use Rattle.change.proofs.folding.known_change.Goals as goal

pub returns-clause-change : goal.returns-clause-change
returns-clause-change c = sym c.change_of.ensures ∙ ap option_copied c.unwrap.ensures

pub returns-clause-elem_type : goal.returns-clause-elem_type
returns-clause-elem_type c =
    (change_there c.args.global.now c.args.id c.args.elem_type c.args.name c.unwrap.result.now
    (returns-clause-change c)).1

pub returns-clause-name : goal.returns-clause-name
returns-clause-name c =
    (change_there c.args.global.now c.args.id c.args.elem_type c.args.name c.unwrap.result.now
    (returns-clause-change c)).2
