use Rattle.std.proofs.Common.{◌≡◌, ◌∙◌, sym, ap, subst, arith, rules, None, Some}
use Rattle.sqlite.specs.Held.{state}
use Rattle.sqlite.specs.State.{HasCleanDisk}
use Rattle.store_schema.specs.declared.schema.Schema.TheVariants.{Third}
use Rattle.store_zones.specs.Held.{HoldsHeads, HoldsUnder}
use Rattle.store.specs.Whole.{ShowsGlobal, ShowsHeads}
use Rattle.smpe_verify.specs.Verified.{begun}
use Rattle.store.proofs.Successive.{handed_on, answered, loads_both}
use Rattle.smpe_verify.proofs.Standing.{since, begins, one_more, all_read}
use Rattle.smpe_verify.proofs.ZoneByZone.{whole, goes_on, stops, ends}
use Rattle.smpe_verify.proofs.zone_by_zone.verify.Goals as goal

pub returns-in_err-global-clause-loads : goal.returns-in_err-global-clause-loads
returns-in_err-global-clause-loads g c =
    handed_on g.S.Store _ _ c.args.store.now c.load_global.new.self c.in_err-global.field-0.0
    c.from_residual.result c.from_residual.ensures.1 c.in_err-global.ensures.loads

pub returns-in_err-heads-clause-loads : goal.returns-in_err-heads-clause-loads
returns-in_err-heads-clause-loads g c =
    handed_on g.S.Store _ _ c.args.store.now c.zone_heads.new.self c.in_err-heads.field-0.0
    c.from_residual-in_err-heads.result c.from_residual-in_err-heads.ensures.1
    (loads_both g.S.Store _ _ c.args.store.now c.load_global.new.self c.zone_heads.new.self c.in_ok-global.global _
    c.in_ok-global.ensures.loads c.in_err-heads.ensures.loads)

pub loop-head-init : goal.loop-head-init
loop-head-init g c = record {
  loads = answered g.S.Store _ _ c.args.store.now c.zone_heads.new.self c.in_ok-heads.heads tt
      (λ i inventory so. (
        c.global.view_is ∙ so.0,
        whole i inventory c.in_ok-global.global so.0 c.as_slice-head-items.result.now
            (c.as_slice-head-items.ensures.value ∙ so.1) c.initial_counts-counts.result
            (c.initial_counts-counts.ensures ∙ ap (begun c.in_ok-global.global)
            (c.as_slice.ensures.value ∙ sym c.as_slice-head-items.ensures.value)),
      ))
      (loads_both g.S.Store _ _ c.args.store.now c.load_global.new.self c.zone_heads.new.self c.in_ok-global.global _
      c.in_ok-global.ensures.loads c.in_ok-heads.ensures.loads);
  rows = λ clean.
      let early : HasCleanDisk (state g.S.Store c.load_global.new.self) = c.in_ok-heads.ensures.loads.clean clean in
      let same = (c.in_ok-global.ensures.loads.reads.same early).0.now_is in
      begins g.S.Store c.args.store.now _ c.as_slice-head-items.result.now
      (subst (ShowsGlobal g.S.Store c.args.store.now) (sym c.global.view_is) (c.in_ok-global.ensures.rows early))
      (subst (ShowsHeads g.S.Store c.args.store.now) (sym c.as_slice-head-items.ensures.value)
      (since g.S.Store c.args.store.now c.load_global.new.self same
      (λ contents. HoldsHeads contents c.in_ok-heads.heads.items) (c.in_ok-heads.ensures.rows clean)));
}

pub returns-in_err-zone_breach-clause-loads : goal.returns-in_err-zone_breach-clause-loads
returns-in_err-zone_breach-clause-loads g c =
    handed_on g.S.Store _ _ c.args.store.now c.verify_zone.new.store c.in_err-zone_breach.field-0.0
    c.from_residual-in_err-zone_breach.result c.from_residual-in_err-zone_breach.ensures.1
    (loads_both g.S.Store _ _ c.args.store.now c.loop-head.store c.verify_zone.new.store tt _
    c.loop-head.invariant.loads c.in_err-zone_breach.ensures.loads)

pub loop-head-preserved : goal.loop-head-preserved
loop-head-preserved g c =
    let none : None ≡ c.in_ok-zone_breach.zone_breach = search rules in
    record {
      loads = answered g.S.Store _ _ c.args.store.now c.verify_zone.new.store c.in_ok-zone_breach.zone_breach tt
          (λ i inventory so. (
            so.0.0,
            goes_on i c.as_slice-head-items.result.now c.loop-head.head-index c.loop-head.counts so.0.1
                c.head-item.result (omega arith) c.head-item.is c.in_ok-global.global (sym c.global.view_is ∙ so.0.0)
                c.verify_zone.new.counts
                so.1.1 (none ∙ so.1.0),
          ))
          (loads_both g.S.Store _ _ c.args.store.now c.loop-head.store c.verify_zone.new.store tt _
          c.loop-head.invariant.loads c.in_ok-zone_breach.ensures.loads);
      rows = λ clean.
          let early : HasCleanDisk (state g.S.Store c.loop-head.store) =
          c.in_ok-zone_breach.ensures.loads.clean clean in
          let same = (c.loop-head.invariant.loads.reads.same early).0.now_is in
          let found = c.in_ok-zone_breach.ensures.rows clean in
          one_more g.S.Store c.args.store.now _ c.as_slice-head-items.result.now c.loop-head.head-index
          c.head-item.result found.0 (omega arith) c.head-item.is (c.loop-head.invariant.rows early)
          (since g.S.Store c.args.store.now c.loop-head.store same
          (λ contents. HoldsUnder Third contents c.head-item.result.name found.0) found.1);
    }

pub returns-in-Some-clause-loads : goal.returns-in-Some-clause-loads
returns-in-Some-clause-loads g c =
    let some : Some c.in-Some.breach ≡ c.in_ok-zone_breach.zone_breach = search rules in
    answered g.S.Store _ _ c.args.store.now c.verify_zone.new.store c.in_ok-zone_breach.zone_breach _
    (λ i inventory so.
    stops i c.as_slice-head-items.result.now c.loop-head.head-index c.loop-head.counts so.0.1 c.head-item.result
    (omega arith) c.head-item.is c.in_ok-global.global (sym c.global.view_is ∙ so.0.0) c.in-Some.breach (some ∙ so.1.0))
    (loads_both g.S.Store _ _ c.args.store.now c.loop-head.store c.verify_zone.new.store tt _
    c.loop-head.invariant.loads c.in_ok-zone_breach.ensures.loads)

pub returns-clause-loads : goal.returns-clause-loads
returns-clause-loads g c = answered g.S.Store _ _ c.args.store.now c.loop-head.store tt _
    (λ i inventory so. ends i c.as_slice-head-items.result.now c.loop-head.head-index c.loop-head.counts so.1
    (omega arith))
    c.loop-head.invariant.loads

pub returns-clause-stands : goal.returns-clause-stands
returns-clause-stands g c clean own rowids =
    all_read g.S.Store c.args.store.now _ c.as_slice-head-items.result.now c.loop-head.head-index (omega arith)
    (c.loop-head.invariant.rows clean) c.load_global.ensures.shown
    (c.loop-head.invariant.loads.reads.same clean).0.was_open own rowids
