-- What ++HOLD and ++RELEASE say. (IBM z/OS SMP/E Reference, MCS: ++HOLD and ++RELEASE.)
use Rattle.std.specs.Prelude.{◌≡◌, ◌≢◌, ◌≤◌, List, [], ◌∷◌, ◌++◌, length, IsSomeAnd, IfSome, Option, Some, None, codes}
use Rattle.terms.specs.declared.kinds.HoldKind.{HoldKind}
use Rattle.terms.specs.Types.{Text, Hold, Release}
use Rattle.terms.specs.Spelling.{hold_text}
use Rattle.terms.specs.Forms.{IsId, IsReason, IsClass, IsDate, IsTrimmed}
use Rattle.terms.specs.Words.{Word, plain}
use Rattle.terms.specs.Operands.{operand, AreOperands, HasOwn, HasRequired, HasOptional}

-- One of the operands is a kind word, and it has no list.
pub record HasKind (operands : List Word) (kind : HoldKind) : Type 0 where
  pub there : operand (hold_text kind) operands ≡ Some (plain (hold_text kind))
  pub alone : (other : HoldKind) → other ≢ kind → operand (hold_text other) operands ≡ None

abbrev pub release_operands : List Text
release_operands = codes "ERROR" ∷ codes "SYSTEM" ∷ codes "USER" ∷ codes "FMID" ∷ codes "REASON" ∷ []

abbrev pub hold_operands : List Text
hold_operands = release_operands ++ codes "CLASS" ∷ codes "DATE" ∷ codes "COMMENT" ∷ []

-- COMMENT(text): the text in the parentheses, without the blanks at both ends. It is not a list.
abbrev pub HasComment : Option Word → Option Text → Type 0
HasComment None comment = comment ≡ None
HasComment (Some w) comment = IsSomeAnd w.list (λ text. IsSomeAnd comment (λ cut. IsTrimmed text cut))

-- ++HOLD(id) kind FMID(id) REASON(reason) [CLASS(class)] [DATE(yyddd)] [COMMENT(text)], whether the hold is internal or
-- not
pub record IsHoldOf (own : Option Text) (operands : List Word) (h : Hold) : Type 0 where
  pub id : HasOwn IsId own h.id
  pub are_operands : AreOperands hold_operands operands
  pub kind : HasKind operands h.kind
  pub fmid : HasRequired IsId (operand (codes "FMID") operands) h.fmid
  pub reason : HasRequired (IsReason h.kind) (operand (codes "REASON") operands) h.reason
  pub class : HasOptional IsClass (operand (codes "CLASS") operands) h.class
  pub date : HasOptional IsDate (operand (codes "DATE") operands) h.date
  pub comment : HasComment (operand (codes "COMMENT") operands) h.comment

-- ++RELEASE(id) kind FMID(id) REASON(reason)
pub record IsReleaseOf (own : Option Text) (operands : List Word) (r : Release) : Type 0 where
  pub id : HasOwn IsId own r.id
  pub are_operands : AreOperands release_operands operands
  pub kind : HasKind operands r.kind
  pub fmid : HasRequired IsId (operand (codes "FMID") operands) r.fmid
  pub reason : HasRequired (IsReason r.kind) (operand (codes "REASON") operands) r.reason

-- the limit of a hold's comment
abbrev pub HasShortComment : Hold → Type 0
HasShortComment h = IfSome h.comment (λ text. length text ≤ 200)
