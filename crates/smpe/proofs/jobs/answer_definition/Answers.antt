use Rattle.std.proofs.Common.{Err, None, [], ◌∷◌, ◌∙◌, refl, sym, ap, subst}
use Rattle.machine.specs.Machine.{Define, NewZone}
use Rattle.store.proofs.Going.{goes_err}
use Rattle.smpe_jobs.specs.declared.zone_error.ZoneError.TheVariants.{Store}
use Rattle.smpe_jobs.specs.ZoneDefinitions.{definition, fault_of}
use Rattle.store.specs.Own.{IsOwn}
use Rattle.smpe_jobs.specs.declared.error.JobError.TheVariants.{Memory}
use Rattle.smpe_jobs.specs.Errors.{job_error}
use Rattle.smpe.proofs.Single.{define_done, define_refused, define_memory, define_fault, refused_so}
use Rattle.smpe.specs.Going.{GoesAmong}
use Rattle.smpe.proofs.Going.{defined_goes, refused_goes, define_early, fails_by}
use Rattle.smpe.proofs.jobs.answer_definition.Goals as goal

pub returns-in-Ok-clause-ends : goal.returns-in-Ok-clause-ends
returns-in-Ok-clause-ends g c clean s keeps taken =
    let p = c.in-Ok.ensures.ends clean s keeps in
    define_done g.S.Store c.args.store.now c.define_zone.new.store s (definition c.args.name c.args.kind c.args.srel
    c.args.related)
    taken p.0 p.1 p.2

pub returns-in-Err-Refused-clause-ends : goal.returns-in-Err-Refused-clause-ends
returns-in-Err-Refused-clause-ends g c clean s keeps taken =
    define_refused g.S.Store c.args.store.now c.define_zone.new.store s (definition c.args.name c.args.kind c.args.srel
    c.args.related)
    taken c.in-Err-Refused.fault c.in-Err-Refused.field-0 c.in-Err-Refused.field-0-is
    (c.in-Err-Refused.ensures.ends clean s keeps)

pub returns-in-Err-Store-clause-ends : goal.returns-in-Err-Store-clause-ends
returns-in-Err-Store-clause-ends g c clean s keeps taken =
    define_fault g.S.Store c.args.store.now c.define_zone.new.store s (definition c.args.name c.args.kind c.args.srel
    c.args.related)
    taken c.in-Err-Store.error c.in-Err-Store.field-0 c.from.result
    c.in-Err-Store.field-0-is c.from.ensures (c.in-Err-Store.ensures.ends clean s keeps)

pub returns-in-Err-Memory-clause-ends : goal.returns-in-Err-Memory-clause-ends
returns-in-Err-Memory-clause-ends g c clean s keeps taken =
    define_memory g.S.Store c.args.store.now c.define_zone.new.store s (definition c.args.name c.args.kind c.args.srel
    c.args.related)
    taken c.in-Err-Memory.field-0 c.in-Err-Memory.field-0-is
    (c.in-Err-Memory.ensures.ends clean s keeps)

-- ---- whatever the tables are

pub returns-in-Ok-clause-goes : goal.returns-in-Ok-clause-goes
returns-in-Ok-clause-goes g c taken =
    let old = c.args.store.now in
    let new = c.define_zone.new.store in
    let d = definition c.args.name c.args.kind c.args.srel c.args.related in
    defined_goes g.S.Store old new d taken (tt {0}) c.in-Ok.ensures.goes.done

pub returns-in-Err-Refused-clause-goes : goal.returns-in-Err-Refused-clause-goes
returns-in-Err-Refused-clause-goes g c taken =
    refused_goes g.S.Store c.args.store.now c.define_zone.new.store
    (definition c.args.name c.args.kind c.args.srel c.args.related) (fault_of c.in-Err-Refused.fault) taken
    (c.in-Err-Refused.ensures.goes.refused (refused_so (Unit {0}) c.in-Err-Refused.field-0-is))

pub returns-in-Err-Store-clause-goes : goal.returns-in-Err-Store-clause-goes
returns-in-Err-Store-clause-goes g c taken =
    let old = c.args.store.now in
    let new = c.define_zone.new.store in
    let d = definition c.args.name c.args.kind c.args.srel c.args.related in
    let e = c.in-Err-Store.error in
    let at = c.in-Err-Store.ensures.goes.call in
    subst (GoesAmong g.S.Store old new (NewZone d ∷ []) taken taken) (sym c.from.ensures)
    (define_early g.S.Store old new d taken (job_error e)
    (fails_by g.S.Store (IsOwn (Define d)) (old, None) new (Define d) taken e c.in-Err-Store.field-0 (λ change own. own) at.over
    (λ clean is. at.none clean (ap Err (c.in-Err-Store.field-0-is ∙ ap Store is)))
    (λ is. at.which (ap Err (c.in-Err-Store.field-0-is ∙ ap Store is)))))

pub returns-in-Err-Memory-clause-goes : goal.returns-in-Err-Memory-clause-goes
returns-in-Err-Memory-clause-goes g c taken =
    let old = c.args.store.now in
    let new = c.define_zone.new.store in
    let d = definition c.args.name c.args.kind c.args.srel c.args.related in
    define_early g.S.Store old new d taken Memory (
      goes_err g.S.Store old new (IsOwn (Define d)) (IsOwn (Define d))
          c.in-Err-Memory.field-0 Memory (λ change own. own) c.in-Err-Memory.ensures.goes.call.over,
      refl,
    )
