-- Why a hold is not released.
use Rattle.terms.specs.declared.kinds.HoldKind.{HoldKind}
use Rattle.terms.specs.Types.{Text, Id, Release}
use Rattle.terms.specs.Global as rule
use Rattle.terms.specs.Global.{ReleaseFault}
use Rattle.sysmods.specs.declared.holds.ReleaseError.{ReleaseError}
use Rattle.sysmods.specs.declared.holds.ReleaseError.TheVariants.{NoHold, Internal}

abbrev pub a_release : Id → HoldKind → Text → Id → Release
a_release x kind reason fmid = record { id = x; kind = kind; reason = reason; fmid = fmid }

abbrev pub release_fault : ReleaseError → ReleaseFault
release_fault NoHold = rule.NoHold
release_fault Internal = rule.Internal
