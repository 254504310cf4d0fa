-- A zone less what DELETE takes out of it. The deletions are the ids that DELETE operands name.
-- (IBM z/OS SMP/E Reference, ++VER, DELETE. What is taken out with them is this project's profile.)
use Rattle.std.specs.Prelude.{◌&&◌, Bool, not, List, [], None, filter, map, if◌then◌else◌}
use Rattle.std.specs.List.{flat_map}
use Rattle.terms.specs.Types.{Id, Global, Entry, Zone}
use Rattle.terms.specs.Lookups.{has_content, is_in, meets, is_applied}
use Rattle.terms.specs.Choice.{Choice, del_of}
use Rattle.terms.specs.Over.{chain}

-- what the DELETE operands of these SYSMODs name
abbrev pub deletions : Choice → List Id → List Id
deletions c xs = flat_map (del_of c) xs

-- whether its chain contains one of the deletions
abbrev pub is_deleted : Global → Choice → List Id → Id → Bool
is_deleted g c dels x = meets (chain g c x) dels

-- whether it is applied and the deletions take it out
abbrev pub is_taken_out : Global → Choice → List Id → Zone → Id → Bool
is_taken_out g c dels zone x = is_applied zone x && is_deleted g c dels x

-- An entry after some SYSMODs are gone. The entry of such a SYSMOD is no longer applied and waives nothing, and the
-- SYSMOD leaves every SUPBY. Its own SUPBY and DELBY stay.
abbrev pub entry_less : (Id → Bool) → Entry → Entry
entry_less is_gone e = record e {
  applied = if is_gone e.id then None else e.applied;
  supby = filter (λ y. not (is_gone y)) e.supby;
  waived = if is_gone e.id then [] else e.waived;
}

-- the entries without those SYSMODs; an entry that has neither a date nor SUPBY nor DELBY left goes
abbrev pub entries_less : (Id → Bool) → List Entry → List Entry
entries_less is_gone es = filter has_content (map (entry_less is_gone) es)

-- the zone less these deletions: SYSMODs are taken out, and each element goes with its owner's chain
unfoldable pub zone_less : Global → Choice → List Id → Zone → Zone
zone_less g c dels zone = record zone {
  entries = entries_less (is_taken_out g c dels zone) zone.entries;
  elements = filter (λ e. not (is_deleted g c dels e.fmid)) zone.elements;
}

-- a candidate's view of the zone: without what the DELETE of each candidate in its own chain takes out
abbrev pub view : Global → Choice → List Id → Zone → Id → Zone
view g c cands zone x = zone_less g c (deletions c (filter (is_in cands) (chain g c x))) zone
