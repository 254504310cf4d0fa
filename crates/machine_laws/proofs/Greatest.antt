-- What is kept is the greatest set of eligible ids that supports itself: for installs, and for RESTORE.
use Rattle.std.specs.Prelude.{◌↔◌, List, Contains}
use Rattle.terms.specs.Types.{Id}
use Rattle.terms.specs.Lookups.{is_in}
use Rattle.terms.specs.Tests.{Setting}
use Rattle.terms.specs.Judged.{install_judging, IsKeptSet}
use Rattle.terms.specs.Restore.{Restoring, restore_judging, IsRestored}
use Rattle.solve.specs.Greatest.{IsGreatestSet}
use Rattle.solve.proofs.Greatest.{kept_is_greatest}

-- What an APPLY or ACCEPT keeps is the greatest set of its eligible candidates that supports itself.
pub installs_greatest : (s : Setting) (kept : List Id) (k : IsKeptSet s kept)
    → IsGreatestSet (install_judging s k.survivors) (is_in kept)
installs_greatest s kept k = kept_is_greatest (install_judging s k.survivors) kept k.members

-- What a RESTORE takes off is the greatest such set of its list.
pub restores_greatest : (r : Restoring) (ids kept : List Id) → ((x : Id) → Contains kept x ↔ IsRestored r ids x)
    → IsGreatestSet (restore_judging r ids) (is_in kept)
restores_greatest r ids kept members = kept_is_greatest (restore_judging r ids) kept members
