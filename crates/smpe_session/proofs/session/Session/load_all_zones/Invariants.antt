use Rattle.std.proofs.Common.{◌≡◌, Ok, map, take}
use Rattle.store.specs.CallEnds.{EndsLoad}
use Rattle.smpe_session.specs.Sessions.{IsSessionOf}
use Rattle.smpe_session.specs.KnownZones.{AreSought}
use Rattle.smpe_session.specs.Uses.{UsesStore}
use Rattle.smpe_session.proofs.session.Session.load_all_zones.Given as goal

abbrev pub invariant-loop-name : goal.invariant-loop-name
invariant-loop-name g l = record {
  uses : UsesStore {X = Unit {0}} g.S.Store l.fn.store l.store (λ _. ⊥)
      (λ s ended. IsSessionOf s l.fn.self
      → EndsLoad g.S.Store l.fn.store l.store s (λ _. (l.name-items ≡ map (λ z. z.name) s.zones)
      × AreSought s l.self (take l.name-index l.name-items)) ended) (Ok tt);
  boundary : l.self.boundary ≡ l.fn.self.boundary;
}
