use Rattle.std.proofs.Common.{◌≡◌, refl, subst}
use Rattle.store.specs.View.{ShowsCommitted}
use Rattle.store.specs.Whole.{ShowsGlobal}
use Rattle.store.proofs.Loading.{loads_by, rows_told}
use Rattle.store.proofs.open.Store.load_global.Goals as goal

pub returns-clause-loads : goal.returns-clause-loads
returns-clause-loads g c =
    let now = c.load_global.new.conn in
    loads_by g.S.Store (λ i global. global ≡ i.global) c.self.inside.conn c.args.self.now now c.self.view_is
    (c.if-prove.ensures.settled refl) (g.met.S.Store.settled now.store) c.load_global.result c.load_global.ensures.reads
    c.load_global.ensures.found c.load_global.ensures.none c.map_read_error.result c.map_read_error.ensures

pub returns-clause-rows : goal.returns-clause-rows
returns-clause-rows g c clean = rows_told (ShowsGlobal g.S.Store) c.self.inside.conn c.args.self.now c.self.view_is
    c.load_global.result c.map_read_error.result c.map_read_error.ensures (c.load_global.ensures.rows clean)

pub returns-clause-shown : goal.returns-clause-shown
returns-clause-shown g c = subst (ShowsCommitted g.S.Store) c.self.view_is (λ is_open. (
  (c.schema.ensures.live is_open).0,
  c.if-prove.ensures.settled refl is_open,
))
