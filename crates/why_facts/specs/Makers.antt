-- The SYSMODs that made an element, by the values of the code.
use Rattle.std.specs.Prelude.{◌≡◌}
use Rattle.terms.specs.Types.{Id}
use Rattle.terms.specs.Choice.{Choice}
use Rattle.report.specs.Facts.{IsRelation}
use Rattle.report.specs.FactViews.{relation_view}
use Rattle.report.specs.declared.fact.Maker.{Maker}

-- it is z, and x is related to it in this way
abbrev pub IsMaker : Choice → Id → Id → Maker → Type 0
IsMaker c x z m = (m.id ≡ z) × IsRelation c x z (relation_view m.relation)
