-- What a ++HOLD of a SYSMOD says, and why one says nothing.
use Rattle.std.proofs.Common.{◌≡◌, IsTrue, List, Option, Some, sym, ◌∙◌, subst}
use Rattle.std.specs.Prelude.{IsSomeAnd}
use Rattle.terms.specs.declared.statement_words.StatementWord.{StatementWord}
use Rattle.terms.specs.declared.statement_words.StatementWord.TheVariants as word
use Rattle.terms.specs.declared.kinds.HoldKind.TheVariants.{System}
use Rattle.terms.specs.Types.{Text, Lines, Hold, Sysmod}
use Rattle.terms.specs.Forms.{IsId}
use Rattle.terms.specs.Statement.{Piece}
use Rattle.terms.specs.Words.{Word, HasWords}
use Rattle.terms.specs.HoldStatements.{IsHoldOf, HasShortComment}
use Rattle.terms.specs.Statements.{SaysHold, IsOwnHoldOf}
use Rattle.terms.specs.Ptfin.{these_parts, Begun, sysmod_in, HasValue}
use Rattle.terms.proofs.ExactHolds.{kind_only}
use Rattle.terms.proofs.ExactOperands.{own_only}
use Rattle.terms.proofs.ExactWords.{words_only}
use Rattle.rec80.specs.declared.operand_errors.OperandError.{OperandError}
use Rattle.rec80.specs.declared.operand_errors.OperandError.TheVariants.{Memory, Bad}
use Rattle.rec80.specs.Failing.{Excludes}
use Rattle.mcs.specs.Faults.{value_error}
use Rattle.mcs.specs.Said.{IsStatementSaid, IsSaidError}
use Rattle.mcs.proofs.Saying.{hold_excludes}

abbrev pub OwnHoldOf : Sysmod → Option Text → List Piece → Hold → Type 0
OwnHoldOf s own rest h = (ws : List Word) × HasWords rest ws × IsOwnHoldOf s own ws h

-- A hold that is not the SYSMOD's own keeps out every other.
pub not_own : (s : Sysmod) (own : Option Text) (rest : List Piece) (ws : List Word) (h : Hold) → HasWords rest ws
    → IsHoldOf own ws h → ((h.kind ≡ System) × (h.id ≡ s.id) → ⊥) → (x : Hold) → OwnHoldOf s own rest x → ⊥
not_own s own rest ws h words is other x o =
    let same = words_only rest o.0 ws o.1 words in
    let kinds = kind_only ws h.kind x.kind is.kind (subst (λ l. IsHoldOf own l x) same o.2.hold).kind in
    let ids = own_only IsId IsId own h.id x.id is.id o.2.hold.id in
    other (kinds ∙ o.2.kind, ids ∙ o.2.own_id)

pub own_hold : (s : Sysmod) (own : Option Text) (rest : List Piece) (ws : List Word) (h : Hold) → HasWords rest ws
    → IsHoldOf own ws h → (h.kind ≡ System) × (h.id ≡ s.id) → IsTrue h.internal → OwnHoldOf s own rest h
own_hold s own rest ws h words is at internal = (
  ws,
  words,
  record {
    hold = is;
    kind = at.0;
    own_id = at.1;
    internal = internal;
  },
)

pub hold_value : (current : Option Begun) (b : Begun) (w : StatementWord) (own : Option Text) (rest : List Piece)
    (inline : Lines) (h : Hold) → current ≡ Some b → w ≡ word.Hold → OwnHoldOf b.sysmod own rest h
    → HasValue (sysmod_in current) (these_parts w own rest inline) (SaysHold h)
hold_value current b w own rest inline h at is o = (
  o.0,
  o.1,
  (is, subst (λ c. IsSomeAnd (sysmod_in c) (λ x. IsOwnHoldOf x own o.0 h)) (sym at) o.2),
)

pub hold_error : (current : Option Begun) (b : Begun) (w : StatementWord) (own : Option Text) (rest : List Piece)
    (inline : Lines) (error : OperandError) → current ≡ Some b → w ≡ word.Hold
    → Excludes error ((h : Hold) × OwnHoldOf b.sysmod own rest h)
    → IsSaidError current (these_parts w own rest inline) (value_error error)
hold_error current b w own rest inline Memory at is x = tt
hold_error current b w own rest inline Bad at is x =
    hold_excludes (sysmod_in current) w own rest inline is (λ ws h k o.
    x (h, (ws, k, subst (λ c. IsSomeAnd (sysmod_in c) (λ y. IsOwnHoldOf y own ws h)) at o)))

pub hold_said : (current : Option Begun) (b : Begun) (w : StatementWord) (own : Option Text) (rest : List Piece)
    (inline : Lines) (h : Hold) → current ≡ Some b → w ≡ word.Hold → OwnHoldOf b.sysmod own rest h → HasShortComment h
    → IsStatementSaid current (these_parts w own rest inline) (SaysHold h)
hold_said current b w own rest inline h at is o within = record {
  value =
      hold_value current b w own rest inline h at is o;
  within = within;
  text = tt;
}
