use Rattle.std.proofs.Common.{◌≡◌, map, refl}
use Rattle.store_zones.specs.Found.{head_of}
use Rattle.store_schema.specs.declared.schema.Schema.TheVariants.{Third}
use Rattle.store.specs.Whole.{ShowsHeads}
use Rattle.store_zones.specs.Held.{HoldsHeads}
use Rattle.store.proofs.Loading.{loads_by, for_all_rows, rows_told}
use Rattle.store.proofs.open.Store.zone_heads.Goals as goal

pub returns-clause-loads : goal.returns-clause-loads
returns-clause-loads g c =
    let now = c.zone_heads.new.conn in
    loads_by g.S.Store (λ i heads. heads.items ≡ map head_of i.zones) c.self.inside.conn c.args.self.now now
    c.self.view_is
    (c.if-prove.ensures.settled refl) (g.met.S.Store.settled now.store) c.zone_heads.result
    (c.zone_heads.ensures.reads Third)
    (λ clean. c.zone_heads.ensures.found clean Third) (λ clean bad. c.zone_heads.ensures.none clean bad Third)
    c.map_read_error.result c.map_read_error.ensures

pub returns-clause-rows : goal.returns-clause-rows
returns-clause-rows g c clean = rows_told (λ at heads. ShowsHeads g.S.Store at heads.items) c.self.inside.conn
    c.args.self.now c.self.view_is c.zone_heads.result c.map_read_error.result c.map_read_error.ensures
    (for_all_rows g.S.Store c.self.inside.conn c.zone_heads.result
    (λ contents heads. HoldsHeads contents heads.items) (c.zone_heads.ensures.rows clean Third))

pub invariant_of-self : goal.invariant_of-self
invariant_of-self g c = (c.zone_heads.ensures.reads Third).mode c.self.invariant
