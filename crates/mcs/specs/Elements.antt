-- The operands and the text of a replacement.
use Rattle.std.specs.Prelude.{◌≡◌, List, [], ◌∷◌, Option, codes}
use Rattle.terms.specs.declared.kinds.ElemType.{ElemType}
use Rattle.terms.specs.declared.codes.StatementCode.TheVariants.{BadText}
use Rattle.terms.specs.Types.{Text, Lines}
use Rattle.terms.specs.Forms.{IsName}
use Rattle.terms.specs.Words.{Word}
use Rattle.terms.specs.Operands.{operand, AreOperands, HasOwn, HasRequired}
use Rattle.terms.specs.Texts.{IsReplacement, IsUpdate}
use Rattle.mcs.specs.declared.fault.StatementError.{StatementError}
use Rattle.mcs.specs.declared.fault.StatementError.TheVariants.{Memory, Fault}

-- only DISTLIB and SYSLIB, with these names
pub record HasNames (own : Option Text) (ws : List Word) (element distlib syslib : Text) : Type 0 where
  pub name : HasOwn IsName own element
  pub are_operands : AreOperands (codes "DISTLIB" ∷ codes "SYSLIB" ∷ []) ws
  pub has_distlib : HasRequired IsName (operand (codes "DISTLIB") ws) distlib
  pub has_syslib : HasRequired IsName (operand (codes "SYSLIB") ws) syslib

abbrev pub IsTextError : ElemType → Lines → StatementError → Type 0
IsTextError type inline Memory = Unit {0}
IsTextError type inline (Fault code) = (code ≡ BadText) × ¬ IsReplacement type inline

abbrev pub IsUpdateTextError : Text → Lines → StatementError → Type 0
IsUpdateTextError name inline Memory = Unit {0}
IsUpdateTextError name inline (Fault code) = (code ≡ BadText) × ¬ IsUpdate name inline
