-- What the code's facts stand for.
use Rattle.std.specs.Prelude.{List, map, option_map}
use Rattle.report.specs.Facts as facts
use Rattle.report.specs.declared.fact.Standing.{Standing}
use Rattle.report.specs.declared.fact.Standing.TheVariants as standing
use Rattle.report.specs.declared.fact.Resolution.{Resolution}
use Rattle.report.specs.declared.fact.Resolution.TheVariants as resolution
use Rattle.report.specs.declared.fact.Relation.{Relation}
use Rattle.report.specs.declared.fact.Relation.TheVariants as relation
use Rattle.report.specs.declared.fact.Maker.{Maker}
use Rattle.report.specs.declared.fact.ElementLevel.{ElementLevel}
use Rattle.report.specs.declared.fact.NumberedVer.{NumberedVer}
use Rattle.report.specs.declared.fact.ChangedElement.{ChangedElement}
use Rattle.report.specs.declared.fact.Fact.{Fact}
use Rattle.report.specs.declared.fact.Fact.TheVariants as fact

abbrev pub standing_view : Standing → facts.Standing
standing_view (standing.Applied kind) = facts.StandsApplied kind
standing_view standing.Superseded = facts.StandsSuperseded
standing_view standing.Deleted = facts.StandsDeleted
standing_view standing.Received = facts.StandsReceived
standing_view standing.Missing = facts.StandsMissing

abbrev pub resolution_view : Resolution → facts.Resolution
resolution_view (resolution.Supplied ids) = facts.Supplied ids.items
resolution_view resolution.Waived = facts.Waived
resolution_view resolution.ByItself = facts.ByItself
resolution_view (resolution.Open ids) = facts.Open ids

abbrev pub relation_view : Relation → facts.Relation
relation_view relation.Itself = facts.Itself
relation_view relation.Over = facts.Over
relation_view relation.NotOver = facts.NotOver

abbrev pub maker_view : Maker → facts.Maker
maker_view m = record { id = m.id; relation = relation_view m.relation }

abbrev pub level_view : ElementLevel → facts.ElementLevel
level_view f = record {
  fmid = f.fmid;
  owned = f.owned;
  rmid = maker_view f.rmid;
  umids = map maker_view f.umids.items;
}

abbrev pub ver_view : NumberedVer → facts.Fact
ver_view v = facts.VerFact v.number v.fmid v.fits v.counts

abbrev pub element_view : ChangedElement → facts.Fact
element_view e = facts.ElementFact e.elem_type e.name e.replaces e.brought (option_map level_view e.found)

abbrev pub fact_view : Fact → facts.Fact
fact_view (fact.Standing id kind s) = facts.StandingFact id kind (standing_view s)
fact_view (fact.Superseder id) = facts.SupersederFact id
fact_view (fact.Entry kind entry) = facts.EntryFact kind entry.now
fact_view (fact.Ver v) = ver_view v
fact_view (fact.Requisite r a) = facts.RequisiteFact r (resolution_view a)
fact_view (fact.Hold hold a) = facts.HoldFact hold.now (option_map resolution_view a)
fact_view (fact.Element e) = element_view e
fact_view (fact.Delete id own) = facts.DeleteFact id own
fact_view (fact.Takes id) = facts.TakesFact id
fact_view (fact.Npre id applied) = facts.NpreFact id applied
fact_view (fact.Forbidden id) = facts.ForbiddenFact id
fact_view (fact.Needed id) = facts.NeededFact id

-- the facts of a list of the code
abbrev pub facts_view : List Fact → List facts.Fact
facts_view facts = map fact_view facts
