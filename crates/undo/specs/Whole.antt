-- Candidates that need only each other.
use Rattle.std.specs.Prelude.{List, Contains}
use Rattle.terms.specs.declared.codes.NeedKind.{NeedKind}
use Rattle.terms.specs.Types.{Id}
use Rattle.terms.specs.Lookups.{is_in}
use Rattle.terms.specs.Restore.{Restoring, MayBeRestored, NeedsDep, NeedsElem, NeedsInRestore}

-- each other SYSMOD that changes an element of a candidate, and that has to go with it, is a candidate
abbrev pub HasChangers : Restoring → List Id → Type 0
HasChangers r cands = (x y : Id) → Contains cands x → NeedsElem r x y → Contains cands y

-- each other SYSMOD that depends on a candidate is a candidate
abbrev pub HasDependents : Restoring → List Id → Type 0
HasDependents r cands = (x y : Id) → Contains cands x → NeedsDep r (is_in cands) x y → Contains cands y

-- each candidate may be restored, and needs candidates alone
abbrev pub GoesWhole : Restoring → List Id → List Id → Type 0
GoesWhole r list cands = (x : Id) → Contains cands x → MayBeRestored r list x
    × ((kind : NeedKind) (y : Id) → NeedsInRestore r (is_in list) x kind y → Contains cands y)
