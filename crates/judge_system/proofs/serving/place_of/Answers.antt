use Rattle.std.proofs.Common.{◌∙◌, sym, ap, is_some}
use Rattle.judge_system.proofs.OwnPlaces.{place_stands}
use Rattle.judge_system.proofs.serving.place_of.Goals as goal

pub returns-in-Some-clause-at : goal.returns-in-Some-clause-at
returns-in-Some-clause-at c =
    place_stands c.args.ids.now.keys c.args.id c.in-Some.place (sym c.get_index_of.ensures.index ∙ c.in-Some.is)

pub returns-in-None-clause-none : goal.returns-in-None-clause-none
returns-in-None-clause-none c none = sym c.get_index_of.ensures.found ∙ ap is_some c.in-None.is
