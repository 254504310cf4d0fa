use Rattle.std.proofs.Common.{◌≡◌, Ok, length, map, take}
use Rattle.std.specs.List.{flat_map, zip}
use Rattle.terms.specs.Types.{Zone}
use Rattle.zones_maps.specs.Delta.{entry_stood}
use Rattle.store_rows.specs.Calls.{RunsInside}
use Rattle.store_rows.specs.Inside.{Continues}
use Rattle.store.specs.Calls.{entry_calls, new_entry}
use Rattle.store_zones.specs.Zones.{ChangesZone}
use Rattle.store.specs.Writes.{EditsEntries, others}
use Rattle.store.proofs.delta.replace_or_remove_entries.Given as goal

abbrev pub invariant-loop-edit : goal.invariant-loop-edit
invariant-loop-edit g l = record {
  continues : Continues g.S.Store l.fn.tx l.tx;
  calls : RunsInside g.S.Store (flat_map (entry_calls l.name) (take (length l.yielded) (zip l.edits l.numbers_before)))
      l.fn.tx.conn.now l.tx.conn.now {X = Unit {0}} (Ok tt);
  changes : (zone : Zone) → l.numbers_before ≡ map (entry_stood zone) l.edits → ChangesZone g.S.Store l.fn.tx.conn.now
      l.tx.conn.now l.name (EditsEntries zone (others new_entry (take (length l.yielded) (zip l.edits
      l.numbers_before))));
}
