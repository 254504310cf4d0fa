use Rattle.std.proofs.Common.{rules}
use Rattle.store.proofs.Successive.{handed_on, answered, loads_both}
use Rattle.smpe_why.proofs.Related.{found_none, found_some}
use Rattle.smpe_why.proofs.found.load_zones.Goals as goal

-- the loads up to the zone, and up to the heads
pub returns-in_err-global : goal.returns-in_err-global
returns-in_err-global g c = handed_on g.S.Store _ _ c.args.store.now c.load_global.new.self c.in_err-global.field-0.0
    c.from_residual.result c.from_residual.ensures.1 c.in_err-global.ensures.loads

pub returns-in_err-zone : goal.returns-in_err-zone
returns-in_err-zone g c = handed_on g.S.Store _ _ c.args.store.now c.load_zone.new.self c.in_err-zone.field-0.0
    c.from_residual-in_err-zone.result c.from_residual-in_err-zone.ensures.1
    (loads_both g.S.Store _ _ c.args.store.now c.load_global.new.self c.load_zone.new.self c.in_ok-global.global _
    c.in_ok-global.ensures.loads c.in_err-zone.ensures.loads)

pub returns-in_err-heads : goal.returns-in_err-heads
returns-in_err-heads g c = handed_on g.S.Store _ _ c.args.store.now c.zone_heads.new.self c.in_err-heads.field-0.0
    c.from_residual-in_err-heads.result c.from_residual-in_err-heads.ensures.1
    (loads_both g.S.Store _ _ c.args.store.now c.load_zone.new.self c.zone_heads.new.self c.in_ok-zone.zone _
    (loads_both g.S.Store _ _ c.args.store.now c.load_global.new.self c.load_zone.new.self c.in_ok-global.global _
    c.in_ok-global.ensures.loads c.in_ok-zone.ensures.loads) c.in_err-heads.ensures.loads)

pub returns-in_default : goal.returns-in_default
returns-in_default g c = answered g.S.Store _ _ c.args.store.now c.zone_heads.new.self c.in_ok-heads.heads _
    (λ i inventory so. found_none i c.args.name c.in_ok-zone.zone c.in_ok-heads.heads.items c.in_ok-global.global
    so.0.0 so.0.1 so.1
    (search rules))
    (loads_both g.S.Store _ _ c.args.store.now c.load_zone.new.self c.zone_heads.new.self c.in_ok-zone.zone _
    (loads_both g.S.Store _ _ c.args.store.now c.load_global.new.self c.load_zone.new.self c.in_ok-global.global _
    c.in_ok-global.ensures.loads c.in_ok-zone.ensures.loads) c.in_ok-heads.ensures.loads)

pub returns-in_err-related : goal.returns-in_err-related
returns-in_err-related g c = handed_on g.S.Store _ _ c.args.store.now c.load_zone-2.new.self c.in_err-related.field-0.0
    c.from_residual-in_err-related.result c.from_residual-in_err-related.ensures.1
    (loads_both g.S.Store _ _ c.args.store.now c.zone_heads.new.self c.load_zone-2.new.self c.in_ok-heads.heads _
    (loads_both g.S.Store _ _ c.args.store.now c.load_zone.new.self c.zone_heads.new.self c.in_ok-zone.zone _
    (loads_both g.S.Store _ _ c.args.store.now c.load_global.new.self c.load_zone.new.self c.in_ok-global.global _
    c.in_ok-global.ensures.loads c.in_ok-zone.ensures.loads) c.in_ok-heads.ensures.loads) c.in_err-related.ensures.loads)

pub returns : goal.returns
returns g c = answered g.S.Store _ _ c.args.store.now c.load_zone-2.new.self c.in_ok-related.related _
    (λ i inventory so. found_some i c.args.name c.in_ok-zone.zone c.in_ok-heads.heads.items c.in_ok-global.global
    so.0.0.0 so.0.0.1
    so.0.1 c.in_ok-related.related c.in-Some.target (search rules) so.1)
    (loads_both g.S.Store _ _ c.args.store.now c.zone_heads.new.self c.load_zone-2.new.self c.in_ok-heads.heads _
    (loads_both g.S.Store _ _ c.args.store.now c.load_zone.new.self c.zone_heads.new.self c.in_ok-zone.zone _
    (loads_both g.S.Store _ _ c.args.store.now c.load_global.new.self c.load_zone.new.self c.in_ok-global.global _
    c.in_ok-global.ensures.loads c.in_ok-zone.ensures.loads) c.in_ok-heads.ensures.loads) c.in_ok-related.ensures.loads)
