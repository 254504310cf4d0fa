-- What is known of a SYSMOD that may be installed.
use Rattle.std.proofs.Common.{IsTrue, not}
use Rattle.std.specs.Prelude.{IsFalse, is_some}
use Rattle.std.proofs.lemmas.Bool.{and_parts, not-true}
use Rattle.terms.specs.Types.{Id, Global, Zone}
use Rattle.terms.specs.Lookups.{delby_of, is_supplied}
use Rattle.terms.specs.Candidates.{is_installable}

module _ (g : Global) (zone : Zone) (x : Id) (ok : IsTrue (is_installable g zone x)) where
  -- the zone does not supply it
  pub not_supplied : IsFalse (is_supplied zone x)
  not_supplied = not-true (is_supplied zone x)
      (and_parts _ (not (is_supplied zone x)) (and_parts _ (not (is_some (delby_of zone x))) ok).0).1

  -- nor has it deleted
  pub not_deleted : IsFalse (is_some (delby_of zone x))
  not_deleted = not-true (is_some (delby_of zone x)) (and_parts _ (not (is_some (delby_of zone x))) ok).1
