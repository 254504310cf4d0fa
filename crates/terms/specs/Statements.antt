-- The form of each statement of PTFIN: its word, its operands, its text and what it says. (IBM z/OS SMP/E Reference,
-- MCS: ++FUNCTION, ++PTF, ++APAR, ++USERMOD, ++VER, ++IF, ++HOLD, ++ASSIGN, ++MAC, ++SRC, the data elements, ++MACUPD
-- and ++SRCUPD.)
use Rattle.std.specs.Prelude.{◌≡◌, ◌≢◌, List, [], ◌∷◌, ◌++◌, All, Contains, Option, Some, None, IsSome, IsSomeAnd}
use Rattle.std.specs.Prelude.{IsTrue, codes}
use Rattle.terms.specs.declared.kinds.Kind.{Kind}
use Rattle.terms.specs.declared.kinds.Kind.TheVariants.{Function}
use Rattle.terms.specs.declared.kinds.ElemType.{ElemType}
use Rattle.terms.specs.declared.kinds.ElemType.TheVariants.{Mac, Src}
use Rattle.terms.specs.declared.kinds.HoldKind.TheVariants.{System}
use Rattle.terms.specs.declared.statement_words.StatementWord.{StatementWord}
use Rattle.terms.specs.declared.statement_words.StatementWord.TheVariants as word
use Rattle.terms.specs.Types.{Text, Id, Lines, IfReq, Ver, Hold, Action, Replaces, Updates, Change, Sysmod, Assign}
use Rattle.terms.specs.Spelling.{kind_text, type_text}
use Rattle.terms.specs.Forms.{IsId, IsSource, IsSrel, IsName}
use Rattle.terms.specs.Words.{Word, plain}
use Rattle.terms.specs.Operands.{operand, AreOperands, HasOwn, HasOne, HasListed, HasSorted, HasRequired, HasOptional}
use Rattle.terms.specs.Operands.{HasTexts}
use Rattle.terms.specs.HoldStatements.{IsHoldOf}

-- how the word is spelled
abbrev pub statement_text : StatementWord → Text
statement_text (word.Header kind) = codes "++" ++ kind_text kind
statement_text word.Ver = codes "++VER"
statement_text word.If = codes "++IF"
statement_text word.Hold = codes "++HOLD"
statement_text word.Release = codes "++RELEASE"
statement_text word.Assign = codes "++ASSIGN"
statement_text (word.Replace type) = codes "++" ++ type_text type
statement_text word.UpdateMac = codes "++MACUPD"
statement_text word.UpdateSrc = codes "++SRCUPD"

-- the type of the element that a statement changes
abbrev pub changed_type : StatementWord → Option ElemType
changed_type (word.Replace type) = Some type
changed_type word.UpdateMac = Some Mac
changed_type word.UpdateSrc = Some Src
changed_type _ = None

-- What one statement of PTFIN says. A ++VER is without its ++IFs here.
pub data Statement : Type 0 where
  SaysHeader : Kind → Id → Statement
  SaysVer : Ver → Statement
  SaysIf : IfReq → Statement
  SaysHold : Hold → Statement
  SaysAssign : Assign → Statement
  SaysChange : Change → Statement

-- ++FUNCTION(id), and the same for the other kinds
abbrev pub IsHeaderOf : Option Text → List Word → Id → Type 0
IsHeaderOf own operands id = HasOwn IsId own id × (operands ≡ [])

abbrev pub ver_operands : List Text
ver_operands = codes "FMID" ∷ codes "PRE" ∷ codes "REQ" ∷ codes "SUP" ∷ codes "NPRE" ∷ codes "DELETE" ∷ []

-- A function needs no FMID, and only a function has NPRE and DELETE.
abbrev pub SuitsKind : Kind → List Word → Type 0
SuitsKind Function operands = Unit {0}
SuitsKind _ operands =
    IsSome (operand (codes "FMID") operands) × (operand (codes "NPRE") operands ≡ None)
    × (operand (codes "DELETE") operands ≡ None)

-- all lists of a ++VER
abbrev pub lists_of : Ver → List (List Id)
lists_of v = v.pre ∷ v.req ∷ v.sup ∷ v.npre ∷ v.del ∷ []

-- ++VER(srel) [FMID(id)] [PRE(ids)] [REQ(ids)] [SUP(ids)] [NPRE(ids)] [DELETE(ids)]; no operand names the SYSMOD itself
pub record IsVerOf (s : Sysmod) (own : Option Text) (operands : List Word) (v : Ver) : Type 0 where
  pub srel : HasOwn IsSrel own v.srel
  pub are_operands : AreOperands ver_operands operands
  pub fmid : HasOptional IsId (operand (codes "FMID") operands) v.fmid
  pub pre : HasTexts IsId (operand (codes "PRE") operands) v.pre
  pub req : HasTexts IsId (operand (codes "REQ") operands) v.req
  pub sup : HasTexts IsId (operand (codes "SUP") operands) v.sup
  pub npre : HasTexts IsId (operand (codes "NPRE") operands) v.npre
  pub del : HasTexts IsId (operand (codes "DELETE") operands) v.del
  pub suits : SuitsKind s.kind operands
  pub other_fmid : v.fmid ≢ Some s.id
  pub others : All (λ ids. ¬ Contains ids s.id) (lists_of v)
  pub no_ifs : v.ifs ≡ []

-- ++IF FMID(id) THEN REQ(ids), in this order only. The FMID may be the SYSMOD itself. The list does not name it.
pub record IsIfOf (s : Sysmod) (own : Option Text) (operands : List Word) (i : IfReq) : Type 0 where
  pub fmid : Word
  pub req : Word
  pub no_list : own ≡ None
  pub are_operands : operands ≡ fmid ∷ plain (codes "THEN") ∷ req ∷ []
  pub fmid_word : fmid.word ≡ codes "FMID"
  pub req_word : req.word ≡ codes "REQ"
  pub function : HasOne IsId fmid i.function
  pub ids : HasSorted IsId req i.req
  pub others : ¬ Contains i.req s.id

-- ++HOLD inside a SYSMOD: an internal SYSTEM hold on the SYSMOD itself
pub record IsOwnHoldOf (s : Sysmod) (own : Option Text) (operands : List Word) (h : Hold) : Type 0 where
  pub hold : IsHoldOf own operands h
  pub kind : h.kind ≡ System
  pub own_id : h.id ≡ s.id
  pub internal : IsTrue h.internal

-- ++ASSIGN SOURCEID(source) TO(ids), the ids in the order of the statement
pub record IsAssignOf (own : Option Text) (operands : List Word) (a : Assign) : Type 0 where
  pub no_list : own ≡ None
  pub are_operands : AreOperands (codes "SOURCEID" ∷ codes "TO" ∷ []) operands
  pub source : HasRequired IsSource (operand (codes "SOURCEID") operands) a.source
  pub to : IsSomeAnd (operand (codes "TO") operands) (λ w. HasListed IsId w a.to)

-- DISTLIB(name) SYSLIB(name) of a replacement, or no operand of an update; the inline records are the text
abbrev pub HasAction : StatementWord → List Word → Lines → Action → Type 0
HasAction (word.Replace type) operands inline (Replaces distlib syslib text) =
    AreOperands (codes "DISTLIB" ∷ codes "SYSLIB" ∷ []) operands
    × HasRequired IsName (operand (codes "DISTLIB") operands) distlib
    × HasRequired IsName (operand (codes "SYSLIB") operands) syslib × (text ≡ inline)
HasAction word.UpdateMac operands inline (Updates text) = (operands ≡ []) × (text ≡ inline)
HasAction word.UpdateSrc operands inline (Updates text) = (operands ≡ []) × (text ≡ inline)
HasAction _ operands inline action = ⊥

-- ++MAC(name) DISTLIB(name) SYSLIB(name), or so with another type's word; ++MACUPD(name) and ++SRCUPD(name)
pub record IsChangeOf (w : StatementWord) (own : Option Text) (operands : List Word) (inline : Lines) (c : Change) :
    Type 0 where
  pub type_is : changed_type w ≡ Some c.elem_type
  pub name : HasOwn IsName own c.name
  pub action : HasAction w operands inline c.action

-- What the statement of this word says after a SYSMOD's statements, or outside a SYSMOD.
abbrev pub Says : Option Sysmod → StatementWord → Option Text → List Word → Lines → Statement → Type 0
Says current w own operands inline (SaysHeader kind id) = (w ≡ word.Header kind) × IsHeaderOf own operands id
Says current w own operands inline (SaysVer v) = (w ≡ word.Ver) × IsSomeAnd current (λ s. IsVerOf s own operands v)
Says current w own operands inline (SaysIf i) = (w ≡ word.If) × IsSomeAnd current (λ s. IsIfOf s own operands i)
Says current w own operands inline (SaysHold h) = (w ≡ word.Hold)
    × IsSomeAnd current (λ s. IsOwnHoldOf s own operands h)
Says current w own operands inline (SaysAssign a) = (w ≡ word.Assign) × IsAssignOf own operands a
Says current w own operands inline (SaysChange c) = IsChangeOf w own operands inline c
