-- The form of each command: its word, its operands and its value (SMP/E Commands: SET, RECEIVE, REJECT, APPLY, ACCEPT,
-- BYPASS of these two, RESTORE, LIST, REPORT).
use Rattle.std.specs.Prelude.{◌≡◌, ◌||◌, Bool, true, false, not, List, [], ◌∷◌, Option, Some, None, IsSomeAnd}
use Rattle.std.specs.Prelude.{codes}
use Rattle.terms.specs.declared.kinds.HoldKind.{HoldKind}
use Rattle.terms.specs.declared.kinds.HoldKind.TheVariants.{Error, System, User}
use Rattle.terms.specs.declared.codes.CommandWord.{CommandWord}
use Rattle.terms.specs.declared.codes.CommandWord.TheVariants as word
use Rattle.terms.specs.Types.{Text, Reasons, NoReason, AnyReason, TheseReasons, Bypass, Selection, Install, RestoreList}
use Rattle.terms.specs.Types.{RestoreSelect, RestoreGroup, ReceiveOperands, Command, Set, Receive, Reject, Apply, Accept}
use Rattle.terms.specs.Types.{Restore, ListZone, Report}
use Rattle.terms.specs.Statement.{Piece, TheWord}
use Rattle.terms.specs.Spelling.{word_text}
use Rattle.terms.specs.Forms.{IsId, IsClass, IsReason, IsSource, IsZoneName}
use Rattle.terms.specs.Words.{IsShort, Word, HasWords, HasMembers}
use Rattle.terms.specs.Operands.{operand, AreOperands, HasSorted, HasRequired, HasOptional, HasTexts, HasFlag}

-- the operands of APPLY and ACCEPT
abbrev pub install_operands : List Text
install_operands =
    codes "FUNCTIONS" ∷ codes "PTFS" ∷ codes "APARS" ∷ codes "USERMODS" ∷ codes "SELECT" ∷ codes "EXCLUDE"
    ∷ codes "SOURCEID" ∷ codes "FORFMID" ∷ codes "GROUP" ∷ codes "GROUPEXTEND" ∷ codes "BYPASS" ∷ codes "CHECK"
    ∷ []

-- the members of APPLY's BYPASS, all of which ACCEPT's BYPASS has too
abbrev pub apply_members : List Text
apply_members =
    codes "PRE" ∷ codes "REQ" ∷ codes "IFREQ" ∷ codes "ID" ∷ codes "HOLDERROR" ∷ codes "HOLDSYSTEM" ∷ codes "HOLDUSER"
    ∷ codes "HOLDCLASS" ∷ []

-- the members that the BYPASS of a command may have; only APPLY and ACCEPT have one
abbrev pub members_of : CommandWord → List Text
members_of word.Apply = apply_members
members_of word.Accept = codes "APPLYCHECK" ∷ apply_members
members_of _ = []

-- the operands that a command may have
abbrev pub operands_of : CommandWord → List Text
operands_of word.Set = codes "BDY" ∷ []
operands_of word.Receive = codes "SYSMODS" ∷ codes "HOLDDATA" ∷ codes "SOURCEID" ∷ []
operands_of word.Reject = codes "SELECT" ∷ []
operands_of word.Apply = install_operands
operands_of word.Accept = install_operands
operands_of word.Restore = codes "SELECT" ∷ codes "GROUP" ∷ codes "CHECK" ∷ []
operands_of word.List = codes "TEXT" ∷ []
operands_of word.Report = codes "ERRSYSMODS" ∷ []

-- the word with which a command begins
abbrev pub command_word : Command → CommandWord
command_word (Set zone) = word.Set
command_word (Receive what) = word.Receive
command_word (Reject ids) = word.Reject
command_word (Apply i) = word.Apply
command_word (Accept i) = word.Accept
command_word (Restore ids check) = word.Restore
command_word (ListZone text) = word.List
command_word Report = word.Report

-- an operand whose list is no longer than the limit; without the operand the list is empty
abbrev pub HasShort : (Text → Type 0) → Option Word → List Text → Type 0
HasShort form found values = HasTexts form found values × IsShort values

-- an operand with such a list that must be present
abbrev pub HasSome : (Text → Type 0) → Option Word → List Text → Type 0
HasSome form found values = IsSomeAnd found (λ w. HasSorted form w values) × IsShort values

-- RECEIVE. With SYSMODS it reads PTFIN, with HOLDDATA the hold file, and with neither both.
pub record HasReceive (words : List Word) (what : ReceiveOperands) : Type 0 where
  pub sysmods : Bool
  pub holddata : Bool
  pub has_sysmods : HasFlag (operand (codes "SYSMODS") words) sysmods
  pub has_holddata : HasFlag (operand (codes "HOLDDATA") words) holddata
  pub reads_sysmods : what.sysmods ≡ (sysmods || not holddata)
  pub reads_holds : what.holddata ≡ (holddata || not sysmods)
  pub source : HasOptional IsSource (operand (codes "SOURCEID") words) what.source

-- the operands by which APPLY and ACCEPT choose
pub record HasSelection (words : List Word) (s : Selection) : Type 0 where
  pub functions : HasFlag (operand (codes "FUNCTIONS") words) s.functions
  pub ptfs : HasFlag (operand (codes "PTFS") words) s.ptfs
  pub apars : HasFlag (operand (codes "APARS") words) s.apars
  pub usermods : HasFlag (operand (codes "USERMODS") words) s.usermods
  pub select : HasShort IsId (operand (codes "SELECT") words) s.select
  pub exclude : HasShort IsId (operand (codes "EXCLUDE") words) s.exclude
  pub sourceid : HasShort IsSource (operand (codes "SOURCEID") words) s.sourceid
  pub forfmid : HasShort IsId (operand (codes "FORFMID") words) s.forfmid
  pub group : HasShort IsId (operand (codes "GROUP") words) s.group
  pub groupextend : HasFlag (operand (codes "GROUPEXTEND") words) s.groupextend

-- nothing is bypassed
abbrev pub no_bypass : Bypass
no_bypass = record {
  pre = false;
  req = false;
  ifreq = false;
  same_id = false;
  applycheck = false;
  holderror = NoReason;
  holdsystem = NoReason;
  holduser = NoReason;
  holdclass = [];
}

-- the reasons of HOLDERROR, HOLDSYSTEM or HOLDUSER: all of them if the member has no list
abbrev pub HasReasons : HoldKind → Option Word → Reasons → Type 0
HasReasons kind None reasons = reasons ≡ NoReason
HasReasons kind (Some m) NoReason = ⊥
HasReasons kind (Some m) AnyReason = m.list ≡ None
HasReasons kind (Some m) (TheseReasons reasons) = HasSorted (IsReason kind) m reasons × IsShort reasons

-- the members of BYPASS, each with its own list if it has one
pub record HasBypassed (members : List Word) (b : Bypass) : Type 0 where
  pub pre : HasFlag (operand (codes "PRE") members) b.pre
  pub req : HasFlag (operand (codes "REQ") members) b.req
  pub ifreq : HasFlag (operand (codes "IFREQ") members) b.ifreq
  pub same_id : HasFlag (operand (codes "ID") members) b.same_id
  pub applycheck : HasFlag (operand (codes "APPLYCHECK") members) b.applycheck
  pub holderror : HasReasons Error (operand (codes "HOLDERROR") members) b.holderror
  pub holdsystem : HasReasons System (operand (codes "HOLDSYSTEM") members) b.holdsystem
  pub holduser : HasReasons User (operand (codes "HOLDUSER") members) b.holduser
  pub holdclass : HasShort IsClass (operand (codes "HOLDCLASS") members) b.holdclass

-- The text of BYPASS's list consists of members that the command may have, each at most once.
pub record IsBypassList (w : CommandWord) (text : Text) (b : Bypass) : Type 0 where
  pub members : List Word
  pub has_members : HasMembers text members
  pub are_members : AreOperands (members_of w) members
  pub has_bypassed : HasBypassed members b

-- BYPASS, which needs its list; without it nothing is bypassed
abbrev pub HasBypass : CommandWord → Option Word → Bypass → Type 0
HasBypass w None b = b ≡ no_bypass
HasBypass w (Some found) b = IsSomeAnd found.list (λ text. IsBypassList w text b)

-- APPLY and ACCEPT
pub record HasInstall (w : CommandWord) (words : List Word) (i : Install) : Type 0 where
  pub selection : HasSelection words i.selection
  pub bypass : HasBypass w (operand (codes "BYPASS") words) i.bypass
  pub check : HasFlag (operand (codes "CHECK") words) i.check

-- SELECT or GROUP of RESTORE, but not both
abbrev pub HasRestoreList : List Word → RestoreList → Type 0
HasRestoreList words (RestoreSelect ids) =
    (operand (codes "GROUP") words ≡ None) × HasSome IsId (operand (codes "SELECT") words) ids
HasRestoreList words (RestoreGroup ids) =
    (operand (codes "SELECT") words ≡ None) × HasSome IsId (operand (codes "GROUP") words) ids

-- these operands give the command its values
abbrev pub HasOperands : List Word → Command → Type 0
HasOperands words (Set zone) = HasRequired IsZoneName (operand (codes "BDY") words) zone
HasOperands words (Receive what) = HasReceive words what
HasOperands words (Reject ids) = HasSome IsId (operand (codes "SELECT") words) ids
HasOperands words (Apply i) = HasInstall word.Apply words i
HasOperands words (Accept i) = HasInstall word.Accept words i
HasOperands words (Restore ids check) = HasRestoreList words ids × HasFlag (operand (codes "CHECK") words) check
HasOperands words (ListZone text) = HasFlag (operand (codes "TEXT") words) text
HasOperands words Report = HasFlag (operand (codes "ERRSYSMODS") words) true

-- The pieces are a command: its word, which has no list, and operands that it may have, each at most once.
pub record IsCommand (pieces : List Piece) (c : Command) : Type 0 where
  pub rest : List Piece
  pub words : List Word
  pub begins : pieces ≡ TheWord (word_text (command_word c)) ∷ rest
  pub has_words : HasWords rest words
  pub are_operands : AreOperands (operands_of (command_word c)) words
  pub has_operands : HasOperands words c
