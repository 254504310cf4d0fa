-- The forms of reasons.
use Rattle.std.proofs.Common.{arith}
use Rattle.terms.specs.declared.kinds.HoldKind.{HoldKind}
use Rattle.terms.specs.declared.kinds.HoldKind.TheVariants.{Error, System, User}
use Rattle.terms.specs.Types.{Text}
use Rattle.terms.specs.Forms.{IsReason, IsClass}

-- A reason of a kind has the form of any reason.
pub class_of : (kind : HoldKind) (t : Text) → IsReason kind t → IsClass t
class_of Error t h = (omega (arith, h.0), h.1, h.2)
class_of System t h = h
class_of User t h = h
