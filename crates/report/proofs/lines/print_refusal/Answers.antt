use Rattle.report.proofs.lines.print_refusal.Goals as goal

pub returns-in-BadPtfin : goal.returns-in-BadPtfin
returns-in-BadPtfin g c = rw c.in-BadPtfin.is c.print_fault.ensures

pub returns-in-BadHoldFile : goal.returns-in-BadHoldFile
returns-in-BadHoldFile g c = rw c.in-BadHoldFile.is c.print_fault-in-BadHoldFile.ensures

pub returns-in-NoBoundary : goal.returns-in-NoBoundary
returns-in-NoBoundary g c = rw c.in-NoBoundary.is c.print.ensures.paged

pub returns-in-NoZone : goal.returns-in-NoZone
returns-in-NoZone g c = rw c.in-NoZone.is c.print-in-NoZone.ensures.paged

pub returns-in-WrongKind : goal.returns-in-WrongKind
returns-in-WrongKind g c = rw c.in-WrongKind.is c.print-in-WrongKind.ensures.paged
