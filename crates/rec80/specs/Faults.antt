-- The errors of this crate as the faults that the rules name.
use Rattle.terms.specs.Records.{RecFault}
use Rattle.terms.specs.Records as faults
use Rattle.rec80.specs.declared.error.RecError.{RecError}
use Rattle.rec80.specs.declared.error.RecError.TheVariants.{ShortRecord, BadByte}

abbrev pub rec_fault : RecError → RecFault
rec_fault (ShortRecord n) = faults.ShortRecord n
rec_fault (BadByte n column) = faults.BadByte n column
