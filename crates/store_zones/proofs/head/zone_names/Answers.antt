use Rattle.store_rows.proofs.Queries.{reads_err, reads_more}
use Rattle.std.proofs.Common.{map, rules, ap, ◌∙◌}
use Rattle.sqlite_trees.proofs.ListLemmas.{map-map}
use Rattle.store_zones.specs.declared.head.ZoneHead.{ZoneHead}
use Rattle.store_zones.specs.Found.{head_of}
use Rattle.store_zones.proofs.head.zone_names.Goals as goal

pub returns-clause-found : goal.returns-clause-found
returns-clause-found g c clean r i stands =
    c.in_ok-names_of_heads.ensures ∙ ap (map (λ (h : ZoneHead). h.name))
    (c.as_slice.ensures.value ∙ c.in_ok-heads.ensures.found clean r i stands)
    ∙ map-map (λ (h : ZoneHead). h.name) head_of i.zones

pub returns-in_err-heads-clause-reads : goal.returns-in_err-heads-clause-reads
returns-in_err-heads-clause-reads g c r =
    reads_err g.S.Store _ _ _ c.args.conn.now c.zone_heads.new.conn c.zone_heads.result _ (search rules)
    (λ bad. search rules) (λ failed. search rules)
    (c.zone_heads.ensures.reads r)

pub returns-in_err-names_of_heads-clause-reads : goal.returns-in_err-names_of_heads-clause-reads
returns-in_err-names_of_heads-clause-reads g c r =
    reads_more g.S.Store _ _ _ c.args.conn.now c.zone_heads.new.conn c.zone_heads.result c.in_ok-heads.heads _
    c.in_ok-heads.was (λ failed. search rules) (c.zone_heads.ensures.reads r)

pub returns-clause-reads : goal.returns-clause-reads
returns-clause-reads g c r =
    reads_more g.S.Store _ _ _ c.args.conn.now c.zone_heads.new.conn c.zone_heads.result c.in_ok-heads.heads _
    c.in_ok-heads.was (λ failed. search rules) (c.zone_heads.ensures.reads r)
