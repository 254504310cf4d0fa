use Rattle.std.proofs.Common.{inl, inr, refl}
use Rattle.smpe_rehearsal.specs.Opened.{IsStoreOver}
use Rattle.smpe_rehearsal.proofs.global_zone.load_global_of_connection.Goals as goal

pub returns-in-Ok : goal.returns-in-Ok
returns-in-Ok g c =
    let opened = c.in-Ok.ensures in
    let over : IsStoreOver g.S.Store c.args.conn c.in-Ok.store = record {
      stands = λ i found. record { now = opened.tables i found; crash = opened.leaves i found };
      ours = opened.ours;
      same = opened.same;
      crash = opened.crash;
    } in
    inr (c.in-Ok.store, c.load_global-global.new.self, over, c.load_global-global.ensures.loads)

pub returns-in-Err : goal.returns-in-Err
returns-in-Err g c = inl (
  c.in-Err.error,
  record { left = c.in-Err.conn; other = c.in-Err.ensures.other; none = c.in-Err.ensures.none },
  refl,
)
