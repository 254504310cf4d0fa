use Rattle.std.proofs.Common.{◌≡◌, ◌∙◌, Ok, Err, [], inl, sym, ap, subst, true≢false}
use Rattle.terms.specs.Types.{a_zone}
use Rattle.machine.specs.State.{with_zone}
use Rattle.machine.specs.Machine.{Define}
use Rattle.store.specs.declared.change.Change.TheVariants.{NewZone}
use Rattle.store.proofs.Going.{loads_alone, alone_short, goes_ok}
use Rattle.store.proofs.NoState.{loads_read}
use Rattle.store.specs.Kept.{kept, IsAfter, Keeps, LeadsOn}
use Rattle.smpe_jobs.specs.ZoneDefinitions.{definition}
use Rattle.smpe_jobs.specs.Heads.{first_fault}
use Rattle.store.specs.Own.{IsOwn}
use Rattle.smpe_jobs.proofs.Adding.{makes, leads, steps_defined, leads_on}
use Rattle.smpe_jobs.proofs.Defining.{defined_failed, goes_failed}
use Rattle.smpe_jobs.proofs.FirstFault.{refuses, accepts}
use Rattle.store.proofs.Keeping.{inventory_kept, loaded, committed, act_unmoved, failed_more, failed_since}
use Rattle.store.proofs.GoingCalls.{is_later, call_load, call_commit, call_after}
use Rattle.smpe_jobs.proofs.zone_definition.add_zone.Goals as goal

-- the heads could not be loaded
pub returns-in_err-heads-clause-ends : goal.returns-in_err-heads-clause-ends
returns-in_err-heads-clause-ends g c = λ clean s keeps.
    let old = c.args.store.now in
    let new = c.zone_heads.new.self in
    let e = c.in_err-heads.field-0.0 in
    let d = definition c.args.name c.args.kind c.args.srel c.args.related in
    defined_failed g.S.Store old new s d e c.from_residual.result c.from_residual.ensures.1
    (act_unmoved g.S.Store old new s (Define d) e
    (loaded g.S.Store old new s _ (Err e) clean c.in_err-heads.ensures.loads keeps))

-- the definition is refused
pub returns-in-Some-clause-ends : goal.returns-in-Some-clause-ends
returns-in-Some-clause-ends g c = λ clean s keeps.
    let d = definition c.args.name c.args.kind c.args.srel c.args.related in
    let had = loaded g.S.Store c.args.store.now c.zone_heads.new.self s _ (Ok c.in_ok-heads.heads) clean
    c.in_ok-heads.ensures.loads keeps in
    let found = c.as_slice.ensures.value ∙ had.0 in (
      refuses s d c.in-Some.fault (sym (c.first_fault.ensures.fault ∙ ap (λ heads. first_fault heads d) found)
          ∙ c.in-Some.is),
      had.1,
    )

-- the zone could not be added
pub returns-in_err-commit-clause-ends : goal.returns-in_err-commit-clause-ends
returns-in_err-commit-clause-ends g c = λ clean s keeps.
    let old = c.args.store.now in
    let before = c.zone_heads.new.self in
    let new = c.commit.new.self in
    let e = c.in_err-commit.field-0.0 in
    let d = definition c.args.name c.args.kind c.args.srel c.args.related in
    let added = NewZone c.args.name c.args.kind c.args.srel c.args.related in
    let sure = c.commit.ensures.clean clean in
    let had = loaded g.S.Store old before s _ (Ok c.in_ok-heads.heads) sure c.in_ok-heads.ensures.loads keeps in
    let found = c.as_slice.ensures.value ∙ had.0 in
    let answers = accepts s d (sym (c.first_fault.ensures.fault ∙ ap (λ heads. first_fault heads d) found) ∙
    c.in_default.is)
    in
    let t = with_zone s d.name (a_zone d.kind d.srel d.related [] []) in
    let inventory = inventory_kept g.S.Store before s had.1 sure in
    let at = c.in_err-commit.ensures in
    defined_failed g.S.Store old new s d e c.from_residual-in_err-commit.result
    c.from_residual-in_err-commit.ensures.1
    (failed_since g.S.Store old before new s (is_later g.S.Store old before
    (call_load g.S.Store old before _ (Ok c.in_ok-heads.heads) c.in_ok-heads.ensures.loads).follows)
    (IsAfter s (Define d)) (LeadsOn s (Define d)) e
    (failed_more g.S.Store before new s (λ k. k ≡ kept t) (IsAfter s (Define d)) (λ own. own ≡ added)
    (LeadsOn s (Define d)) (λ k same. (t, [], steps_defined s t d answers, same))
    (λ own is. subst (LeadsOn s (Define d)) (sym is) (leads_on s t d answers inventory)) e
    (committed g.S.Store before new s added t had.1 (makes s t d answers inventory)
    (leads s t d answers inventory c.first_fault.ensures.name c.first_fault.ensures.srel) (Err e) at.ok at.durable
    at.err at.crash at.which (λ failed. at.before clean failed (kept s) had.1.now))))

-- the zone is added
pub returns-clause-ends : goal.returns-clause-ends
returns-clause-ends g c = λ clean s keeps.
    let before = c.zone_heads.new.self in
    let d = definition c.args.name c.args.kind c.args.srel c.args.related in
    let sure = c.commit.ensures.clean clean in
    let had = loaded g.S.Store c.args.store.now before s _ (Ok c.in_ok-heads.heads) sure c.in_ok-heads.ensures.loads keeps in
    let found = c.as_slice.ensures.value ∙ had.0 in
    let answers = accepts s d (sym (c.first_fault.ensures.fault ∙ ap (λ heads. first_fault heads d) found) ∙
    c.in_default.is)
    in
    let t = with_zone s d.name (a_zone d.kind d.srel d.related [] []) in
    let inventory = inventory_kept g.S.Store before s had.1 sure in
    let is_made = makes s t d answers inventory in
    let is_led = leads s t d answers inventory c.first_fault.ensures.name c.first_fault.ensures.srel in
    let stands : Keeps g.S.Store c.commit.new.self t = record {
      now = c.in_ok-commit.ensures.ok (kept s) (kept t) is_made is_led had.1.now;
      crash = c.in_ok-commit.ensures.durable (kept s) (kept t) is_made is_led had.1.now;
    } in (t, answers, stands)

-- ---- whatever the tables are

pub returns-in_err-heads-clause-goes : goal.returns-in_err-heads-clause-goes
returns-in_err-heads-clause-goes g c =
    let e = c.in_err-heads.field-0.0 in
    goes_failed g.S.Store c.args.store.now c.zone_heads.new.self
    (definition c.args.name c.args.kind c.args.srel c.args.related) (λ _. ⊥) e c.from_residual.result
    c.from_residual.ensures.1 (λ change none. absurd none)
    (call_load g.S.Store c.args.store.now c.zone_heads.new.self _ (Err e) c.in_err-heads.ensures.loads)

pub returns-in-Some-clause-goes : goal.returns-in-Some-clause-goes
returns-in-Some-clause-goes g c =
    let old = c.args.store.now in
    let new = c.zone_heads.new.self in
    let loads = c.in_ok-heads.ensures.loads in
    record {
      call = record {
        follows = (call_load g.S.Store old new _ (Ok c.in_ok-heads.heads) loads).follows;
        over = inl (alone_short g.S.Store old new c.in_ok-heads.heads _
            (loads_alone g.S.Store old new _ loads.reads));
        none = λ clean bad. absurd (cc bad);
        which = λ bad. absurd (cc bad);
      };
      done = tt;
      refused = λ refused. loads_read g.S.Store old new _ loads.reads;
    }

pub returns-in_err-commit-clause-goes : goal.returns-in_err-commit-clause-goes
returns-in_err-commit-clause-goes g c =
    let old = c.args.store.now in
    let before = c.zone_heads.new.self in
    let new = c.commit.new.self in
    let e = c.in_err-commit.field-0.0 in
    let added = NewZone c.args.name c.args.kind c.args.srel c.args.related in
    let at = c.in_err-commit.ensures in
    goes_failed g.S.Store old new (definition c.args.name c.args.kind c.args.srel c.args.related)
    (λ own. own ≡ added) e c.from_residual-in_err-commit.result c.from_residual-in_err-commit.ensures.1
    (λ change own. own)
    (call_after g.S.Store old before new (λ own. own ≡ added) c.in_ok-heads.heads _
    (call_load g.S.Store old before _ (Ok c.in_ok-heads.heads) c.in_ok-heads.ensures.loads)
    (call_commit g.S.Store before new added _ at.clean at.only at.which))

pub returns-clause-goes : goal.returns-clause-goes
returns-clause-goes g c =
    let old = c.args.store.now in
    let before = c.zone_heads.new.self in
    let new = c.commit.new.self in
    let d = definition c.args.name c.args.kind c.args.srel c.args.related in
    let added = NewZone c.args.name c.args.kind c.args.srel c.args.related in
    let at = c.in_ok-commit.ensures in
    let both = call_after g.S.Store old before new (λ own. own ≡ added) c.in_ok-heads.heads _
    (call_load g.S.Store old before _ (Ok c.in_ok-heads.heads) c.in_ok-heads.ensures.loads)
    (call_commit g.S.Store before new added _ at.clean at.only at.which) in
    record {
      call = record {
        follows = both.follows;
        over = goes_ok g.S.Store old new (λ own. own ≡ added) (IsOwn (Define d)) (tt {0}) (tt {0}) (λ change own. own)
            both.over;
        none = λ clean bad. absurd (cc bad);
        which = λ bad. absurd (cc bad);
      };
      done = record {
        before = before;
        loads = loads_read g.S.Store old before _ c.in_ok-heads.ensures.loads.reads;
        commits = record { made = at.only.made; kept = λ clean. tt; crash = at.only.crash };
      };
      refused = λ refused. absurd (true≢false (sym refused));
    }
