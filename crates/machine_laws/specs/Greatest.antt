-- The kept set is the greatest set that supports itself.
use Rattle.std.specs.Prelude.{◌↔◌, List, Contains}
use Rattle.terms.specs.Types.{Id}
use Rattle.terms.specs.Lookups.{is_in}
use Rattle.terms.specs.Tests.{Setting}
use Rattle.terms.specs.Judged.{install_judging, IsKeptSet}
use Rattle.terms.specs.Restore.{Restoring, restore_judging, IsRestored}
use Rattle.solve.specs.Greatest.{IsGreatestSet}

-- What an APPLY or ACCEPT keeps is the greatest set of its eligible candidates that supports itself.
abbrev pub InstallsGreatest : Type 0
InstallsGreatest =
    (s : Setting) (kept : List Id) (k : IsKeptSet s kept)
    → IsGreatestSet (install_judging s k.survivors) (is_in kept)

-- What a RESTORE takes off is the greatest such set of its list.
abbrev pub RestoresGreatest : Type 0
RestoresGreatest =
    (r : Restoring) (ids kept : List Id) → ((x : Id) → Contains kept x ↔ IsRestored r ids x)
    → IsGreatestSet (restore_judging r ids) (is_in kept)
