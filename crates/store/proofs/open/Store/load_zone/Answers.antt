use Rattle.std.proofs.Common.{◌≡◌, refl}
use Rattle.store_zones.specs.Found.{zone_in}
use Rattle.store.specs.Whole.{ShowsZone}
use Rattle.store_zones.specs.Held.{HoldsUnder}
use Rattle.store_schema.specs.declared.schema.Schema.TheVariants.{Third}
use Rattle.store.proofs.Loading.{loads_by, for_all_rows, rows_told}
use Rattle.store.proofs.open.Store.load_zone.Goals as goal

pub returns-clause-loads : goal.returns-clause-loads
returns-clause-loads g c =
    let now = c.load_zone.new.conn in
    loads_by g.S.Store (λ i zone. zone ≡ zone_in i c.args.name) c.self.inside.conn c.args.self.now now c.self.view_is
    (c.if-prove.ensures.settled refl) (g.met.S.Store.settled now.store) c.load_zone.result c.load_zone.ensures.reads
    c.load_zone.ensures.found c.load_zone.ensures.none c.map_read_error.result c.map_read_error.ensures

pub returns-clause-rows : goal.returns-clause-rows
returns-clause-rows g c clean = rows_told (λ at zone. ShowsZone g.S.Store at c.args.name zone) c.self.inside.conn
    c.args.self.now c.self.view_is c.load_zone.result c.map_read_error.result c.map_read_error.ensures
    (for_all_rows g.S.Store c.self.inside.conn c.load_zone.result
    (λ contents zone. HoldsUnder Third contents c.args.name zone) (c.load_zone.ensures.rows clean))
