-- What a ++VER says, and why one says nothing.
use Rattle.std.proofs.Common.{◌≡◌, ◌≢◌, List, [], Option, Some, sym, subst}
use Rattle.std.specs.Prelude.{All, Contains, IsSomeAnd, IfSome, codes, length, ◌<◌}
use Rattle.terms.specs.declared.statement_words.StatementWord.{StatementWord}
use Rattle.terms.specs.declared.statement_words.StatementWord.TheVariants as word
use Rattle.terms.specs.Types.{Text, Lines, Ver, Sysmod}
use Rattle.terms.specs.Forms.{IsId, IsSrel}
use Rattle.terms.specs.Statement.{Piece}
use Rattle.terms.specs.Words.{Word, HasWords, IsShort}
use Rattle.terms.specs.Operands.{operand, AreOperands, HasOwn, HasOptional}
use Rattle.terms.specs.Statements.{SaysVer, SuitsKind, ver_operands, lists_of, IsVerOf}
use Rattle.terms.specs.Ptfin.{these_parts, Begun, sysmod_in, HasValue, IsWithin}
use Rattle.terms.proofs.ExactOperands.{optional_only, texts_only}
use Rattle.terms.proofs.ExactWords.{words_only}
use Rattle.rec80.specs.declared.operand_errors.OperandError.{OperandError}
use Rattle.rec80.specs.declared.operand_errors.OperandError.TheVariants.{Memory, Bad}
use Rattle.rec80.specs.Failing.{Excludes}
use Rattle.mcs.specs.VerOperands.{HasLists}
use Rattle.mcs.specs.Said.{IsStatementSaid, IsSaidError}
use Rattle.mcs.specs.Faults.{value_error}
use Rattle.mcs.proofs.Saying.{ver_excludes}

-- the operands of a ++VER, before any is compared with the SYSMOD
pub record HasVer (own : Option Text) (ws : List Word) (v : Ver) : Type 0 where
  pub has_srel : HasOwn IsSrel own v.srel
  pub has_fmid : HasOptional IsId (operand (codes "FMID") ws) v.fmid
  pub has_lists : HasLists ws v.pre v.req v.sup v.npre v.del
  pub no_ifs : v.ifs ≡ []

pub ver_is : (s : Sysmod) (own : Option Text) (ws : List Word) (v : Ver) → HasVer own ws v → AreOperands ver_operands ws
    → SuitsKind s.kind ws → v.fmid ≢ Some s.id → All (λ ids. Contains ids s.id → ⊥) (lists_of v) → IsVerOf s own ws v
ver_is s own ws v h are suits fmid others = record {
  srel = h.has_srel;
  are_operands = are;
  fmid = h.has_fmid;
  pre = h.has_lists.has_pre;
  req = h.has_lists.has_req;
  sup = h.has_lists.has_sup;
  npre = h.has_lists.has_npre;
  del = h.has_lists.has_del;
  suits = suits;
  other_fmid = fmid;
  others = others;
  no_ifs = h.no_ifs;
}

pub lists_in : (s : Sysmod) (own : Option Text) (ws : List Word) (v : Ver) → IsVerOf s own ws v
    → HasLists ws v.pre v.req v.sup v.npre v.del
lists_in s own ws v i = record { has_pre = i.pre; has_req = i.req; has_sup = i.sup; has_npre = i.npre; has_del = i.del }

-- The FMID is determined.
pub fmid_is : (s : Sysmod) (own : Option Text) (ws : List Word) (v w : Ver) → IsVerOf s own ws v → HasVer own ws w
    → w.fmid ≡ v.fmid
fmid_is s own ws v w i h = optional_only IsId (operand (codes "FMID") ws) w.fmid v.fmid h.has_fmid i.fmid

-- So are the lists.
pub lists_are : (s : Sysmod) (own : Option Text) (ws : List Word) (v w : Ver) → IsVerOf s own ws v → HasVer own ws w
    → lists_of w ≡ lists_of v
lists_are s own ws v w i h =
    let a = texts_only IsId (operand (codes "PRE") ws) w.pre v.pre h.has_lists.has_pre i.pre in
    let b = texts_only IsId (operand (codes "REQ") ws) w.req v.req h.has_lists.has_req i.req in
    let c = texts_only IsId (operand (codes "SUP") ws) w.sup v.sup h.has_lists.has_sup i.sup in
    let d = texts_only IsId (operand (codes "NPRE") ws) w.npre v.npre h.has_lists.has_npre i.npre in
    let e = texts_only IsId (operand (codes "DELETE") ws) w.del v.del h.has_lists.has_del i.del in
    cc (a, b, c, d, e)

pub ver_value : (current : Option Begun) (b : Begun) (w : StatementWord) (own : Option Text) (rest : List Piece)
    (inline : Lines) (ws : List Word) (v : Ver) → current ≡ Some b → w ≡ word.Ver → HasWords rest ws
    → IsVerOf b.sysmod own ws v → HasValue (sysmod_in current) (these_parts w own rest inline) (SaysVer v)
ver_value current b w own rest inline ws v at is h i = (
  ws,
  h,
  (is, subst (λ c. IsSomeAnd (sysmod_in c) (λ x. IsVerOf x own ws v)) (sym at) i),
)

pub ver_error : (current : Option Begun) (b : Begun) (w : StatementWord) (own : Option Text) (rest : List Piece)
    (inline : Lines) (ws : List Word) (error : OperandError) → current ≡ Some b → w ≡ word.Ver → HasWords rest ws
    → Excludes error ((v : Ver) × IsVerOf b.sysmod own ws v)
    → IsSaidError current (these_parts w own rest inline) (value_error error)
ver_error current b w own rest inline ws Memory at is h x = tt
ver_error current b w own rest inline ws Bad at is h x =
    ver_excludes (sysmod_in current) w own rest inline is (λ ws' v h' i.
    let here : IsVerOf b.sysmod own ws' v = subst (λ c. IsSomeAnd (sysmod_in c) (λ y. IsVerOf y own ws' v)) at i in
    x (v, subst (λ l. IsVerOf b.sysmod own l v) (words_only rest ws' ws h' h) here))

pub ver_said : (current : Option Begun) (b : Begun) (w : StatementWord) (own : Option Text) (rest : List Piece)
    (inline : Lines) (ws : List Word) (v : Ver) → current ≡ Some b → w ≡ word.Ver → HasWords rest ws
    → IsVerOf b.sysmod own ws v → (length b.sysmod.vers < 8) × All IsShort (lists_of v)
    → IsStatementSaid current (these_parts w own rest inline) (SaysVer v)
ver_said current b w own rest inline ws v at is h i within = record {
  value = ver_value current b w own rest inline ws v at is h i;
  within = (subst (λ c. IfSome c (λ x. length x.sysmod.vers < 8)) (sym at) within.0, within.1);
  text = tt;
}

pub ver_within : (current : Option Begun) (b : Begun) (v : Ver) (inline : Lines) → current ≡ Some b
    → IsWithin current (SaysVer v) inline → (length b.sysmod.vers < 8) × All IsShort (lists_of v)
ver_within current b v inline at h = (subst (λ c. IfSome c (λ x. length x.sysmod.vers < 8)) at h.0, h.1)
