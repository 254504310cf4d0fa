-- What a command says that a shop's command asks for, operand by operand. The words are those of IBM z/OS SMP/E
-- Commands.
use Rattle.std.specs.Prelude.{◌≡◌, ◌≢◌, ◌↔◌, ◌||◌, ◌⊎◌, Bool, true, false, not, List, [], ◌∷◌, Option, Some, None, All}
use Rattle.std.specs.Prelude.{Contains}
use Rattle.std.specs.Prelude.{IsTrue, codes, Vec}
use Rattle.std.specs.declared.alloc.Global.{Global}
use Rattle.terms.specs.Types.{Text, Reasons, NoReason, AnyReason, TheseReasons, Bypass, Selection, Install, RestoreList}
use Rattle.terms.specs.Types.{RestoreSelect, RestoreGroup, ReceiveOperands, Command, Set, Receive, Reject, Apply, Accept}
use Rattle.terms.specs.Types.{Restore, ListZone, Report}
use Rattle.terms.specs.Lookups.{is_in}
use Rattle.terms.specs.Spelling.{word_text}
use Rattle.terms.specs.CommandForms.{command_word}
use Rattle.intake_read.specs.declared.items.WideOperand.{WideOperand}
use Rattle.intake_asked.specs.declared.known.KnownSysmod.{KnownSysmod}
use Rattle.intake_asked.specs.declared.known.KnownSysmods.{KnownSysmods}
use Rattle.intake_asked.specs.declared.scan.WideCommand.{WideCommand}
use Rattle.intake_asked.specs.Words.{has, stands_alone, listed, selected, grouped, excluded, sources, sources_of}
use Rattle.intake_asked.specs.Words.{select_names, groupextend_names, check_names}
use Rattle.intake_asked.specs.Known.{known_after}
use Rattle.intake_asked.specs.KnownWords.{known_operands, known_members}

-- the same texts, in whatever order
abbrev pub AreThese : List Text → List Text → Type 0
AreThese these texts = (x : Text) → Contains these x ↔ Contains texts x

abbrev pub known_in : Option (Vec KnownSysmod Global) → List KnownSysmod
known_in None = []
known_in (Some known) = known.items

-- the lists of ids of APPLY and ACCEPT
pub record SaysLists (known : List KnownSysmod) (operands : List WideOperand) (s : Selection) : Type 0 where
  pub select : AreThese s.select (selected operands)
  pub group : AreThese s.group (grouped operands)
  pub exclude : AreThese s.exclude (excluded known operands)
  pub forfmid : AreThese s.forfmid (listed (codes "FORFMID" ∷ []) operands)

-- what APPLY and ACCEPT choose
pub record SaysSelection (known : Option (Vec KnownSysmod Global)) (operands : List WideOperand) (s : Selection) :
    Type 0 where
  pub functions : s.functions ≡ has (codes "FUNCTIONS" ∷ codes "FUNCTION" ∷ []) operands
  pub ptfs : s.ptfs ≡ has (codes "PTFS" ∷ codes "PTF" ∷ []) operands
  pub apars : s.apars ≡ has (codes "APARS" ∷ codes "APAR" ∷ []) operands
  pub usermods : s.usermods ≡ has (codes "USERMODS" ∷ codes "USERMOD" ∷ []) operands
  pub lists : SaysLists (known_in known) operands s
  pub sourceid : AreThese s.sourceid (sources (known_in known) operands)
  pub groupextend : s.groupextend ≡ has groupextend_names operands
  -- Whom GROUPEXTEND keeps out is known, and each member of SOURCEID names some source id.
  pub known_given : (known ≡ None) → listed groupextend_names operands ≡ []
  pub sources_known : All (λ m. sources_of (known_in known) m ≢ []) (listed (codes "SOURCEID" ∷ []) operands)

-- the reasons of a member of BYPASS: all of them if it has no list
abbrev pub SaysReasons : List Text → List WideOperand → Reasons → Type 0
SaysReasons names bypassed NoReason = has names bypassed ≡ false
SaysReasons names bypassed AnyReason = stands_alone names bypassed ≡ true
SaysReasons names bypassed (TheseReasons reasons) =
    (has names bypassed ≡ true) × (stands_alone names bypassed ≡ false) × AreThese reasons (listed names bypassed)

-- the members of BYPASS, which are the words of its list
pub record SaysBypass (bypassed : List WideOperand) (b : Bypass) : Type 0 where
  pub pre : b.pre ≡ has (codes "PRE" ∷ []) bypassed
  pub req : b.req ≡ has (codes "REQ" ∷ []) bypassed
  pub ifreq : b.ifreq ≡ has (codes "IFREQ" ∷ []) bypassed
  pub same_id : b.same_id ≡ has (codes "ID" ∷ []) bypassed
  pub applycheck : b.applycheck ≡ has (codes "APPLYCHECK" ∷ []) bypassed
  pub holderror : SaysReasons (codes "HOLDERROR" ∷ codes "HOLDERR" ∷ []) bypassed b.holderror
  pub holdsystem : SaysReasons (codes "HOLDSYSTEM" ∷ codes "HOLDSYS" ∷ []) bypassed b.holdsystem
  pub holduser : SaysReasons (codes "HOLDUSER" ∷ []) bypassed b.holduser
  pub holdclass : AreThese b.holdclass (listed (codes "HOLDCLASS" ∷ []) bypassed)

-- APPLY and ACCEPT. C with a list is another operand than CHECK.
pub record SaysInstall (known : Option (Vec KnownSysmod Global)) (w : WideCommand) (i : Install) : Type 0 where
  pub selection : SaysSelection known w.operands.items i.selection
  pub bypass : SaysBypass w.bypassed.items i.bypass
  pub check : i.check ≡ stands_alone check_names w.operands.items

abbrev pub SaysRestored : List WideOperand → RestoreList → Type 0
SaysRestored operands (RestoreSelect ids) = AreThese ids (selected operands) × (grouped operands ≡ [])
SaysRestored operands (RestoreGroup ids) = AreThese ids (grouped operands) × (selected operands ≡ [])

abbrev pub one_of : Option Text → List Text
one_of None = []
one_of (Some text) = text ∷ []

pub record SaysReceive (operands : List WideOperand) (what : ReceiveOperands) : Type 0 where
  pub sysmods : what.sysmods
      ≡ (has (codes "SYSMODS" ∷ codes "SYSMOD" ∷ []) operands || not (has (codes "HOLDDATA" ∷ []) operands))
  pub holddata : what.holddata
      ≡ (has (codes "HOLDDATA" ∷ []) operands || not (has (codes "SYSMODS" ∷ codes "SYSMOD" ∷ []) operands))
  pub source : AreThese (one_of what.source) (listed (codes "SOURCEID" ∷ []) operands)

-- the values of the command
abbrev pub SaysOperands : Option (Vec KnownSysmod Global) → WideCommand → Command → Type 0
SaysOperands known w (Set zone) = AreThese (zone ∷ []) (listed (codes "BDY" ∷ codes "BOUNDARY" ∷ []) w.operands.items)
SaysOperands known w (Receive what) = SaysReceive w.operands.items what
SaysOperands known w (Reject ids) = AreThese ids (listed select_names w.operands.items)
SaysOperands known w (Apply i) = SaysInstall known w i
SaysOperands known w (Accept i) = SaysInstall known w i
SaysOperands known w (Restore ids check) =
    SaysRestored w.operands.items ids × (check ≡ stands_alone check_names w.operands.items)
SaysOperands known w (ListZone text) = text ≡ has (codes "TEXT" ∷ []) w.operands.items
SaysOperands known w Report = has (codes "ERRSYSMODS" ∷ []) w.operands.items ≡ true

-- The command has the word of the shop's command, and just the values that this one asks for.
pub record Says (known : Option (Vec KnownSysmod Global)) (w : WideCommand) (c : Command) : Type 0 where
  pub word : w.head.name.items ≡ word_text (command_word c)
  pub no_other : All (λ o. IsTrue (is_in (known_operands (command_word c)) o.name.items)) w.operands.items
  pub no_other_member : All (λ o. IsTrue (is_in (known_members (command_word c)) o.name.items)) w.bypassed.items
  pub operands : SaysOperands known w c

-- the word of a command that changes no decision
abbrev pub is_no_decision : Text → Bool
is_no_decision word = is_in (codes "RESETRC" ∷ codes "LOG" ∷ codes "DEBUG" ∷ []) word

-- It receives SYSMODs.
abbrev pub receives : Command → Bool
receives (Receive what) = what.sysmods
receives _ = false

-- The commands are, in order, what the shop's commands ask for, but for those that change no decision. `received` says
-- whether a command before them receives SYSMODs.
abbrev pub AreSaidAfter : KnownSysmods → Bool → List WideCommand → List Command → Type 0
AreSaidAfter known received [] commands = commands ≡ []
AreSaidAfter known received (w ∷ ws) commands =
    (IsTrue (is_no_decision w.head.name.items) × AreSaidAfter known received ws commands)
    ⊎ ((c : Command) × (more : List Command) × (commands ≡ c ∷ more) × Says (known_after known received) w c
    × AreSaidAfter known (received || receives c) ws more)

abbrev pub AreSaid : KnownSysmods → List WideCommand → List Command → Type 0
AreSaid known commands said = AreSaidAfter known false commands said
