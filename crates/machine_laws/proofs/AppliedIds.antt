-- The applied ids of a zone: as a list, and as a test.
use Rattle.std.proofs.Common.{All, Contains, IsTrue, get_or}
use Rattle.std.proofs.lemmas.List.Elements.{All-contains, All-contains_itself}
use Rattle.terms.specs.Types.{Id, Zone}
use Rattle.terms.specs.Lookups.{IsZone, is_applied, applied_ids}
use Rattle.terms.proofs.Applied.{in_applied_ids, applied_are}

pub applied_in_ids : (zone : Zone) → IsZone zone → (x : Id) → Contains (applied_ids zone) x
    → IsTrue (is_applied zone x)
applied_in_ids zone is x = (applied_are zone is x).0

-- what all of them have, each has
pub of_applied : (P : Id → Type 0) (zone : Zone) → All P (applied_ids zone) → (x : Id) → IsTrue (is_applied zone x)
    → P x
of_applied P zone all x on = All-contains P (applied_ids zone) x all (in_applied_ids zone x on)

-- and what each has, all have
pub each_applied : (P : Id → Type 0) (zone : Zone) → IsZone zone → ((x : Id) → IsTrue (is_applied zone x) → P x)
    → All P (applied_ids zone)
each_applied P zone is each = λ k d below.
    let x = get_or (applied_ids zone) k d in
    each x (applied_in_ids zone is x (All-contains_itself (applied_ids zone) k d below))
