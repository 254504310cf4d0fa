-- The candidates of a RESTORE, and the ids of its list that are none.
use Rattle.std.specs.Prelude.{◌≡◌, List, not, filter, map}
use Rattle.terms.specs.declared.not_chosen.NotChosen.TheVariants.{NotApplied}
use Rattle.terms.specs.Types.{Id, RestoreList}
use Rattle.terms.specs.Lookups.{is_applied}
use Rattle.terms.specs.Restore.{Restoring, AreListed, restore_candidates}
use Rattle.zones.specs.declared.candidates.Candidates.{Candidates}

-- The applied ids of the list are candidates. The others get NOTAPPLIED.
pub record HasCandidates (r : Restoring) (what : RestoreList) (c : Candidates) : Type 0 where
  pub listed : List Id
  pub are_listed : AreListed r what listed
  pub ids : c.ids ≡ restore_candidates r listed
  pub left_out : c.left_out.items ≡ map (λ x. (x, NotApplied)) (filter (λ x. not (is_applied r.zone x)) listed)
