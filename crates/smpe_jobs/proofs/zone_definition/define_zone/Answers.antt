use Rattle.smpe_jobs.specs.ZoneDefinitions.{definition}
use Rattle.smpe_jobs.proofs.Closing.{definition_closed}
use Rattle.smpe_jobs.proofs.zone_definition.define_zone.Goals as goal

pub returns-clause-follows : goal.returns-clause-follows
returns-clause-follows g c = c.add_zone.ensures.goes.call.follows

pub returns-clause-closed : goal.returns-clause-closed
returns-clause-closed g c clean s keeps closed =
    definition_closed g.S.Store c.args.store.now c.add_zone.new.store s
    (c.add_zone.ensures.goes.call.follows.clean clean) clean
    keeps closed (definition c.args.name c.args.kind c.args.srel c.args.related) c.add_zone.result
    c.attest.ensures c.attest-2.ensures (c.add_zone.ensures.ends clean s keeps)
