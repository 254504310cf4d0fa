-- The operands of ++HOLD and ++RELEASE.
use Rattle.std.specs.Prelude.{Bool, true, false, List, All, Option, Some, None, codes}
use Rattle.terms.specs.declared.kinds.HoldKind.{HoldKind}
use Rattle.terms.specs.declared.kinds.HoldKind.TheVariants.{Error, System, User}
use Rattle.terms.specs.Types.{Text, Release}
use Rattle.terms.specs.Forms.{IsId, IsReason}
use Rattle.terms.specs.Records.{IsPrintable}
use Rattle.terms.specs.Statement.{Piece, TheList}
use Rattle.terms.specs.Words.{Word}
use Rattle.terms.specs.Operands.{operand, HasOwn, HasRequired}
use Rattle.terms.specs.HoldStatements.{HasKind}

-- the kind of the only kind word: ERROR, SYSTEM or USER
abbrev pub kind_from : Bool → Bool → Bool → Option HoldKind
kind_from true false false = Some Error
kind_from false true false = Some System
kind_from false false true = Some User
kind_from _ _ _ = None

-- the id, kind, FMID and reason of a hold or a release
pub record HasKey (own : Option Text) (operands : List Word) (r : Release) : Type 0 where
  pub id : HasOwn IsId own r.id
  pub kind : HasKind operands r.kind
  pub fmid : HasRequired IsId (operand (codes "FMID") operands) r.fmid
  pub reason : HasRequired (IsReason r.kind) (operand (codes "REASON") operands) r.reason

-- The lists of the pieces have only bytes that a record may have.
abbrev pub IsPrintablePiece : Piece → Type 0
IsPrintablePiece (TheList list) = All IsPrintable list
IsPrintablePiece _ = Unit {0}

abbrev pub ArePrintable : List Piece → Type 0
ArePrintable pieces = All IsPrintablePiece pieces
