-- How kinds, types and codes are spelled in files, tables and reports (SMP/E Reference: MCS and LIST output).
use Rattle.std.specs.Prelude.{codes}
use Rattle.terms.specs.declared.kinds.Kind.{Kind}
use Rattle.terms.specs.declared.kinds.Kind.TheVariants.{Function, Ptf, Apar, Usermod}
use Rattle.terms.specs.declared.kinds.HoldKind.{HoldKind}
use Rattle.terms.specs.declared.kinds.HoldKind.TheVariants.{Error, System, User}
use Rattle.terms.specs.declared.kinds.ElemType.{ElemType}
use Rattle.terms.specs.declared.kinds.ElemType.TheVariants.{Mac, Src, Clist, Data, Exec, Parm, Proc}
use Rattle.terms.specs.declared.kinds.ZoneKind.{ZoneKind}
use Rattle.terms.specs.declared.kinds.ZoneKind.TheVariants.{Target, Distribution}
use Rattle.terms.specs.declared.codes.StatementCode.{StatementCode}
use Rattle.terms.specs.declared.codes.StatementCode.TheVariants.{BadStatementForm, UnknownStatementWord}
use Rattle.terms.specs.declared.codes.StatementCode.TheVariants.{BadStatementOperand}
use Rattle.terms.specs.declared.codes.StatementCode.TheVariants.{WrongPlace, BadText, OverLimit}
use Rattle.terms.specs.declared.codes.CommandCode.{CommandCode}
use Rattle.terms.specs.declared.codes.CommandCode.TheVariants.{UnknownCommand, BadCommandOperand, OperandTwice}
use Rattle.terms.specs.declared.codes.CommandCode.TheVariants.{NoSingleList}
use Rattle.terms.specs.declared.codes.CommandCode.TheVariants.{BadCommandForm}
use Rattle.terms.specs.declared.codes.Test.{Test}
use Rattle.terms.specs.declared.codes.Test.TheVariants.{HeldBySystem, HeldByUser, ForbiddenByNpre, OwnedByAnother}
use Rattle.terms.specs.declared.codes.Test.TheVariants.{Regression, NothingToUpdate, NotInTarget, ChainDeleted}
use Rattle.terms.specs.declared.codes.Test.TheVariants.{InClash, AlreadyAccepted, HasDelete, OtherLevel, SeveralFit}
use Rattle.terms.specs.declared.codes.CommandWord.{CommandWord}
use Rattle.terms.specs.declared.codes.CommandWord.TheVariants as word
use Rattle.terms.specs.declared.codes.NeedKind.{NeedKind}
use Rattle.terms.specs.declared.codes.NeedKind.TheVariants as need
use Rattle.terms.specs.declared.codes.IdRefusal.{IdRefusal}
use Rattle.terms.specs.declared.codes.IdRefusal.TheVariants.{MakesLoop, WrongRole, NoRoom, NoHold, Internal}
use Rattle.terms.specs.declared.codes.IdRefusal.TheVariants.{AppliedSomewhere, UnknownSysmod}
use Rattle.terms.specs.Types.{Text}

abbrev pub kind_text : Kind → Text
kind_text Function = codes "FUNCTION"
kind_text Ptf = codes "PTF"
kind_text Apar = codes "APAR"
kind_text Usermod = codes "USERMOD"

abbrev pub hold_text : HoldKind → Text
hold_text Error = codes "ERROR"
hold_text System = codes "SYSTEM"
hold_text User = codes "USER"

abbrev pub type_text : ElemType → Text
type_text Mac = codes "MAC"
type_text Src = codes "SRC"
type_text Clist = codes "CLIST"
type_text Data = codes "DATA"
type_text Exec = codes "EXEC"
type_text Parm = codes "PARM"
type_text Proc = codes "PROC"

abbrev pub zone_kind_text : ZoneKind → Text
zone_kind_text Target = codes "target"
zone_kind_text Distribution = codes "distribution"

abbrev pub statement_code_text : StatementCode → Text
statement_code_text BadStatementForm = codes "Mc1"
statement_code_text UnknownStatementWord = codes "Mc2"
statement_code_text BadStatementOperand = codes "Mc3"
statement_code_text WrongPlace = codes "Mc4"
statement_code_text BadText = codes "Mc5"
statement_code_text OverLimit = codes "Mc6"

abbrev pub command_code_text : CommandCode → Text
command_code_text UnknownCommand = codes "Cn1"
command_code_text BadCommandOperand = codes "Cn2"
command_code_text OperandTwice = codes "Cn3"
command_code_text NoSingleList = codes "Cn4"
command_code_text BadCommandForm = codes "Cn5"

abbrev pub word_text : CommandWord → Text
word_text word.Set = codes "SET"
word_text word.Receive = codes "RECEIVE"
word_text word.Reject = codes "REJECT"
word_text word.Apply = codes "APPLY"
word_text word.Accept = codes "ACCEPT"
word_text word.Restore = codes "RESTORE"
word_text word.List = codes "LIST"
word_text word.Report = codes "REPORT"

abbrev pub test_text : Test → Text
test_text HeldBySystem = codes "J1"
test_text HeldByUser = codes "J2"
test_text ForbiddenByNpre = codes "J3"
test_text OwnedByAnother = codes "J4"
test_text Regression = codes "J5"
test_text NothingToUpdate = codes "J6"
test_text NotInTarget = codes "J7"
test_text ChainDeleted = codes "J8"
test_text InClash = codes "J9"
test_text AlreadyAccepted = codes "J10"
test_text HasDelete = codes "J11"
test_text OtherLevel = codes "J12"
test_text SeveralFit = codes "J13"

abbrev pub need_text : NeedKind → Text
need_text need.Fmid = codes "FMID"
need_text need.Pre = codes "PRE"
need_text need.Req = codes "REQ"
need_text need.Ifreq = codes "IFREQ"
need_text need.HoldError = codes "HOLDERROR"
need_text need.Orphan = codes "ORPHAN"
need_text need.Elem = codes "ELEM"
need_text need.Dep = codes "DEP"

abbrev pub refusal_text : IdRefusal → Text
refusal_text MakesLoop = codes "Rc2"
refusal_text WrongRole = codes "Rc3"
refusal_text NoRoom = codes "Rc4"
refusal_text NoHold = codes "Rl1"
refusal_text Internal = codes "Rl2"
refusal_text AppliedSomewhere = codes "Rj1"
refusal_text UnknownSysmod = codes "Rj2"
