-- What an ++IF says, and why one says nothing.
use Rattle.std.proofs.Common.{◌≡◌, List, [], ◌∷◌, Option, Some, None, sym, ◌∙◌, subst}
use Rattle.std.specs.Prelude.{Contains, IsSomeAnd, IfSome, codes, length, ◌<◌}
use Rattle.terms.specs.declared.statement_words.StatementWord.{StatementWord}
use Rattle.terms.specs.declared.statement_words.StatementWord.TheVariants as word
use Rattle.terms.specs.Types.{Text, Id, Lines, IfReq, Sysmod}
use Rattle.terms.specs.Forms.{IsId}
use Rattle.terms.specs.Statement.{Piece}
use Rattle.terms.specs.Words.{Word, plain, HasWords, IsShort}
use Rattle.terms.specs.Operands.{HasOne, HasSorted}
use Rattle.terms.specs.Statements.{SaysIf, IsIfOf}
use Rattle.terms.specs.Ptfin.{these_parts, Begun, sysmod_in, last_of, HasValue, IsWithin}
use Rattle.terms.proofs.ExactOperands.{has_sorted_only}
use Rattle.terms.proofs.ExactWords.{words_only}
use Rattle.rec80.specs.declared.operand_errors.OperandError.{OperandError}
use Rattle.rec80.specs.declared.operand_errors.OperandError.TheVariants.{Memory, Bad}
use Rattle.rec80.specs.Failing.{Excludes}
use Rattle.mcs.specs.Faults.{value_error}
use Rattle.mcs.specs.Said.{IsStatementSaid, IsSaidError}
use Rattle.mcs.proofs.Saying.{if_excludes}

-- The words of an ++IF are FMID, THEN and REQ, so they are those that were read.
lists_are : (s : Sysmod) (own : Option Text) (ws : List Word) (i : IfReq) (fmid req : Word) → (h : IsIfOf s own ws i)
    → ws ≡ fmid ∷ plain (codes "THEN") ∷ req ∷ [] → (h.fmid ≡ fmid) × (h.req ≡ req)
lists_are s own ws i fmid req h read =
    let same : h.fmid ∷ plain (codes "THEN") ∷ h.req ∷ [] ≡ fmid ∷ plain (codes "THEN") ∷ req ∷ [] =
    sym h.are_operands ∙ read in
    (cc (same), cc (same))

pub function_of : (s : Sysmod) (own : Option Text) (ws : List Word) (i : IfReq) (fmid req : Word) → IsIfOf s own ws i
    → ws ≡ fmid ∷ plain (codes "THEN") ∷ req ∷ [] → HasOne IsId fmid i.function
function_of s own ws i fmid req h read = subst (λ w. HasOne IsId w i.function)
    (lists_are s own ws i fmid req h read).0 h.function

pub ids_of : (s : Sysmod) (own : Option Text) (ws : List Word) (i : IfReq) (fmid req : Word) → IsIfOf s own ws i
    → ws ≡ fmid ∷ plain (codes "THEN") ∷ req ∷ [] → HasSorted IsId req i.req
ids_of s own ws i fmid req h read = subst (λ w. HasSorted IsId w i.req) (lists_are s own ws i fmid req h read).1 h.ids

-- the list is determined
pub ids_are : (s : Sysmod) (own : Option Text) (ws : List Word) (i : IfReq) (fmid req : Word) (ids : List Id)
    → IsIfOf s own ws i → ws ≡ fmid ∷ plain (codes "THEN") ∷ req ∷ [] → HasSorted IsId req ids → i.req ≡ ids
ids_are s own ws i fmid req ids h read sorted = has_sorted_only IsId req i.req ids (ids_of s own ws i fmid req h read)
    sorted

pub if_is : (s : Sysmod) (own : Option Text) (ws : List Word) (fmid req : Word) (i : IfReq) → own ≡ None
    → fmid.word ≡ codes "FMID" → req.word ≡ codes "REQ" → ws ≡ fmid ∷ plain (codes "THEN") ∷ req ∷ []
    → HasOne IsId fmid i.function → HasSorted IsId req i.req → (Contains i.req s.id → ⊥) → IsIfOf s own ws i
if_is s own ws fmid req i no_list fmid_word req_word words function ids others = record {
  fmid = fmid;
  req = req;
  no_list = no_list;
  are_operands = words;
  fmid_word = fmid_word;
  req_word = req_word;
  function = function;
  ids = ids;
  others = others;
}

abbrev pub IfOf : Sysmod → Option Text → List Piece → IfReq → Type 0
IfOf s own rest i = (ws : List Word) × HasWords rest ws × IsIfOf s own ws i

pub if_value : (current : Option Begun) (b : Begun) (w : StatementWord) (own : Option Text) (rest : List Piece)
    (inline : Lines) (i : IfReq) → current ≡ Some b → w ≡ word.If → IfOf b.sysmod own rest i
    → HasValue (sysmod_in current) (these_parts w own rest inline) (SaysIf i)
if_value current b w own rest inline i at is h = (
  h.0,
  h.1,
  (
    is,
    subst (λ c. IsSomeAnd (sysmod_in c) (λ x. IsIfOf x own h.0 i)) (sym at) h.2,
  ),
)

pub if_error : (current : Option Begun) (b : Begun) (w : StatementWord) (own : Option Text) (rest : List Piece)
    (inline : Lines) (ws : List Word) (error : OperandError) → current ≡ Some b → w ≡ word.If → HasWords rest ws
    → Excludes error ((i : IfReq) × IsIfOf b.sysmod own ws i)
    → IsSaidError current (these_parts w own rest inline) (value_error error)
if_error current b w own rest inline ws Memory at is h x = tt
if_error current b w own rest inline ws Bad at is h x =
    if_excludes (sysmod_in current) w own rest inline is (λ ws' i h' k.
    let here : IsIfOf b.sysmod own ws' i = subst (λ c. IsSomeAnd (sysmod_in c) (λ y. IsIfOf y own ws' i)) at k in
    x (i, subst (λ l. IsIfOf b.sysmod own l i) (words_only rest ws' ws h' h) here))

-- what stands among the words keeps out every ++IF
pub if_no_words : (current : Option Begun) (w : StatementWord) (own : Option Text) (rest : List Piece) (inline : Lines)
    → w ≡ word.If → ((ws : List Word) → HasWords rest ws → ⊥)
    → IsSaidError current (these_parts w own rest inline) (value_error Bad)
if_no_words current w own rest inline is none = if_excludes (sysmod_in current) w own rest inline is
    (λ ws i h k. none ws h)

abbrev pub HasPlace : Begun → IfReq → Type 0
HasPlace b i = IfSome (last_of b) (λ v. length v.ifs < 100) × IsShort i.req

pub if_within : (current : Option Begun) (b : Begun) (i : IfReq) (inline : Lines) → current ≡ Some b
    → IsWithin current (SaysIf i) inline → HasPlace b i
if_within current b i inline at h = (
  subst (λ c. IfSome c (λ x. IfSome (last_of x) (λ v. length v.ifs < 100))) at h.0,
  h.1,
)

pub if_said : (current : Option Begun) (b : Begun) (w : StatementWord) (own : Option Text) (rest : List Piece)
    (inline : Lines) (i : IfReq) → current ≡ Some b → w ≡ word.If → IfOf b.sysmod own rest i → HasPlace b i
    → IsStatementSaid current (these_parts w own rest inline) (SaysIf i)
if_said current b w own rest inline i at is h within = record {
  value = if_value current b w own rest inline i at is h;
  within = (
    subst (λ c. IfSome c (λ x. IfSome (last_of x) (λ v. length v.ifs < 100))) (sym at) within.0,
    within.1,
  );
  text = tt;
}
