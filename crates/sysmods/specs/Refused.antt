-- Why a SYSMOD is not received.
use Rattle.std.specs.Prelude.{Option, None, Some, IfSome}
use Rattle.terms.specs.Types.{Sysmod, Global}
use Rattle.terms.specs.Global.{ReceiveFault, HasFault, RefusedBy}
use Rattle.terms.specs.Global as rule
use Rattle.sysmods.specs.declared.refused.Refused.{Refused}
use Rattle.sysmods.specs.declared.refused.Refused.TheVariants.{AlreadyReceived, MakesLoop, WrongRole, NoRoom, Memory}

-- the fault that an error stands for; running out of memory is not a fault of the SYSMOD
abbrev pub fault_of : Refused → Option ReceiveFault
fault_of AlreadyReceived = Some rule.AlreadyReceived
fault_of MakesLoop = Some rule.MakesLoop
fault_of WrongRole = Some rule.WrongRole
fault_of NoRoom = Some rule.NoRoom
fault_of Memory = None

-- no fault applies
abbrev pub HasNoFault : Global → Sysmod → Type 0
HasNoFault g s = (f : ReceiveFault) → ¬ HasFault g s f

-- A fault for which the error stands is the first that applies.
abbrev pub IsRefused : Global → Sysmod → Refused → Type 0
IsRefused g s why = IfSome (fault_of why) (RefusedBy g s)
