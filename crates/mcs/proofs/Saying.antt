-- What statements of each word say.
use Rattle.std.proofs.Common.{◌≡◌, List, [], Option, Some, None, refl, ◌∙◌, ap}
use Rattle.std.specs.Prelude.{IsSomeAnd}
use Rattle.std.specs.List.{flat_map}
use Rattle.terms.specs.declared.kinds.Kind.{Kind}
use Rattle.terms.specs.declared.kinds.ElemType.{ElemType}
use Rattle.terms.specs.declared.statement_words.StatementWord.{StatementWord}
use Rattle.terms.specs.declared.statement_words.StatementWord.TheVariants as word
use Rattle.terms.specs.Types.{Text, Id, Lines, IfReq, Ver, Hold, Change, Sysmod, Assign}
use Rattle.terms.specs.Forms.{IsId}
use Rattle.terms.specs.Statement.{Piece}
use Rattle.terms.specs.Words.{Word, word_pieces, HasWords}
use Rattle.terms.specs.Operands.{HasOwn}
use Rattle.terms.specs.Statements.{changed_type, Statement, SaysHeader, SaysVer, SaysIf, SaysHold, SaysAssign}
use Rattle.terms.specs.Statements.{SaysChange, IsVerOf, IsIfOf, IsOwnHoldOf, IsAssignOf, IsChangeOf}
use Rattle.terms.specs.Ptfin.{these_parts, Begun, HasValue}
use Rattle.mcs.specs.Said.{IsStatementSaid}

no_change : (w : StatementWord) (own : Option Text) (ws : List Word) (inline : Lines) (c : Change)
    → changed_type w ≡ None → IsChangeOf w own ws inline c → ⊥
no_change w own ws inline c none h = cc (none, h.type_is)

pub header_said : (current : Option Begun) (w : StatementWord) (own : Option Text) (rest : List Piece) (inline : Lines)
    (kind : Kind) (id : Id) → w ≡ word.Header kind → HasOwn IsId own id → rest ≡ []
    → IsStatementSaid current (these_parts w own rest inline) (SaysHeader kind id)
header_said current w own rest inline kind id is h none = record {
  value = ([], none, (is, (h, refl)));
  within = tt;
  text = tt;
}

pub header_excludes : (current : Option Sysmod) (w : StatementWord) (own : Option Text) (rest : List Piece)
    (inline : Lines) (kind : Kind) → w ≡ word.Header kind → ((id : Id) → HasOwn IsId own id → rest ≡ [] → ⊥)
    → (s : Statement) → HasValue current (these_parts w own rest inline) s → ⊥
header_excludes current w own rest inline kind is none (SaysHeader k id) v =
    none id v.2.1.0 (v.1 ∙ ap (flat_map word_pieces) v.2.1.1)
header_excludes current w own rest inline kind is none (SaysVer x) v = absurd (cc (is, v.2.0))
header_excludes current w own rest inline kind is none (SaysIf x) v = absurd (cc (is, v.2.0))
header_excludes current w own rest inline kind is none (SaysHold x) v = absurd (cc (is, v.2.0))
header_excludes current w own rest inline kind is none (SaysAssign x) v = absurd (cc (is, v.2.0))
header_excludes current w own rest inline kind is none (SaysChange c) v =
    no_change w own v.0 inline c (ap changed_type is) v.2

pub ver_excludes : (current : Option Sysmod) (w : StatementWord) (own : Option Text) (rest : List Piece)
    (inline : Lines) → w ≡ word.Ver → ((ws : List Word) (v : Ver) → HasWords rest ws
    → IsSomeAnd current (λ s. IsVerOf s own ws v) → ⊥) → (s : Statement)
    → HasValue current (these_parts w own rest inline) s → ⊥
ver_excludes current w own rest inline is none (SaysHeader k id) v = absurd (cc (is, v.2.0))
ver_excludes current w own rest inline is none (SaysVer x) v = none v.0 x v.1 v.2.1
ver_excludes current w own rest inline is none (SaysIf x) v = absurd (cc (is, v.2.0))
ver_excludes current w own rest inline is none (SaysHold x) v = absurd (cc (is, v.2.0))
ver_excludes current w own rest inline is none (SaysAssign x) v = absurd (cc (is, v.2.0))
ver_excludes current w own rest inline is none (SaysChange c) v = no_change w own v.0 inline c (ap changed_type is) v.2

pub if_excludes : (current : Option Sysmod) (w : StatementWord) (own : Option Text) (rest : List Piece) (inline : Lines)
    → w ≡ word.If → ((ws : List Word) (i : IfReq) → HasWords rest ws → IsSomeAnd current (λ s. IsIfOf s own ws i) → ⊥)
    → (s : Statement) → HasValue current (these_parts w own rest inline) s → ⊥
if_excludes current w own rest inline is none (SaysHeader k id) v = absurd (cc (is, v.2.0))
if_excludes current w own rest inline is none (SaysVer x) v = absurd (cc (is, v.2.0))
if_excludes current w own rest inline is none (SaysIf x) v = none v.0 x v.1 v.2.1
if_excludes current w own rest inline is none (SaysHold x) v = absurd (cc (is, v.2.0))
if_excludes current w own rest inline is none (SaysAssign x) v = absurd (cc (is, v.2.0))
if_excludes current w own rest inline is none (SaysChange c) v = no_change w own v.0 inline c (ap changed_type is) v.2

pub hold_excludes : (current : Option Sysmod) (w : StatementWord) (own : Option Text) (rest : List Piece)
    (inline : Lines) → w ≡ word.Hold → ((ws : List Word) (h : Hold) → HasWords rest ws
    → IsSomeAnd current (λ s. IsOwnHoldOf s own ws h) → ⊥) → (s : Statement)
    → HasValue current (these_parts w own rest inline) s → ⊥
hold_excludes current w own rest inline is none (SaysHeader k id) v = absurd (cc (is, v.2.0))
hold_excludes current w own rest inline is none (SaysVer x) v = absurd (cc (is, v.2.0))
hold_excludes current w own rest inline is none (SaysIf x) v = absurd (cc (is, v.2.0))
hold_excludes current w own rest inline is none (SaysHold x) v = none v.0 x v.1 v.2.1
hold_excludes current w own rest inline is none (SaysAssign x) v = absurd (cc (is, v.2.0))
hold_excludes current w own rest inline is none (SaysChange c) v = no_change w own v.0 inline c (ap changed_type is) v.2

pub assign_excludes : (current : Option Sysmod) (w : StatementWord) (own : Option Text) (rest : List Piece)
    (inline : Lines) → w ≡ word.Assign → ((ws : List Word) (a : Assign) → HasWords rest ws → IsAssignOf own ws a → ⊥)
    → (s : Statement) → HasValue current (these_parts w own rest inline) s → ⊥
assign_excludes current w own rest inline is none (SaysHeader k id) v = absurd (cc (is, v.2.0))
assign_excludes current w own rest inline is none (SaysVer x) v = absurd (cc (is, v.2.0))
assign_excludes current w own rest inline is none (SaysIf x) v = absurd (cc (is, v.2.0))
assign_excludes current w own rest inline is none (SaysHold x) v = absurd (cc (is, v.2.0))
assign_excludes current w own rest inline is none (SaysAssign x) v = none v.0 x v.1 v.2.1
assign_excludes current w own rest inline is none (SaysChange c) v =
    no_change w own v.0 inline c (ap changed_type is) v.2

-- of a word that changes an element
pub change_excludes : (current : Option Sysmod) (w : StatementWord) (own : Option Text) (rest : List Piece)
    (inline : Lines) (type : ElemType) → changed_type w ≡ Some type
    → ((ws : List Word) (c : Change) → HasWords rest ws → IsChangeOf w own ws inline c → ⊥) → (s : Statement)
    → HasValue current (these_parts w own rest inline) s → ⊥
change_excludes current w own rest inline type is none (SaysHeader k id) v = absurd (cc (is, ap changed_type v.2.0))
change_excludes current w own rest inline type is none (SaysVer x) v = absurd (cc (is, ap changed_type v.2.0))
change_excludes current w own rest inline type is none (SaysIf x) v = absurd (cc (is, ap changed_type v.2.0))
change_excludes current w own rest inline type is none (SaysHold x) v = absurd (cc (is, ap changed_type v.2.0))
change_excludes current w own rest inline type is none (SaysAssign x) v = absurd (cc (is, ap changed_type v.2.0))
change_excludes current w own rest inline type is none (SaysChange c) v = none v.0 c v.1 v.2
