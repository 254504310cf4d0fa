-- The program's own lines, and its statuses.
use Rattle.std.specs.Prelude.{ℕ, [], ◌∷◌, ◌++◌, codes}
use Rattle.terms.specs.Types.{Text}
use Rattle.machine.specs.State.{ZoneFault, NameTaken, WrongRelated, OtherSrel, TooMany}
use Rattle.machine.specs.Machine as machine
use Rattle.machine.specs.Machine.{Code, Defined, NotDefined}
use Rattle.machine.specs.Report.{words_line}
use Rattle.store_schema.specs.declared.error.StoreError.{StoreError}
use Rattle.store_schema.specs.declared.error.StoreError.TheVariants as store
use Rattle.smpe_jobs.specs.declared.error.JobError.{JobError}
use Rattle.smpe_jobs.specs.declared.error.JobError.TheVariants as job
use Rattle.smpe_invocation.specs.declared.fault.ArgFault.TheVariants as arg
use Rattle.smpe_jobs.specs.declared.messages.Fault.{Fault}
use Rattle.smpe_jobs.specs.declared.messages.Fault.TheVariants.{Job, Arg, CannotRead, NoCommand, NoZone}
use Rattle.smpe_jobs.specs.declared.messages.Fault.TheVariants.{NotCarried, NoSource, CannotWrite}

abbrev pub zone_fault_text : ZoneFault → Text
zone_fault_text NameTaken = codes "Zn1"
zone_fault_text WrongRelated = codes "Zn2"
zone_fault_text OtherSrel = codes "Zn3"
zone_fault_text TooMany = codes "Zn4"

abbrev pub refused_text : ZoneFault → Text
refused_text why = words_line (codes "ZONE" ∷ codes "REFUSED" ∷ zone_fault_text why ∷ [])

-- the line of a zone that was to be defined; a job has its report instead
abbrev pub zone_text : Text → machine.Answer → Text
zone_text name (Code n) = []
zone_text name Defined = words_line (codes "ZONE" ∷ name ∷ codes "DEFINED" ∷ [])
zone_text name (NotDefined why) = refused_text why

-- the line of a database that has the tables of this program's schema
abbrev pub migrated_text : Text
migrated_text = words_line (codes "SCHEMA" ∷ codes "3" ∷ [])

-- the status of a program that has an answer
abbrev pub answer_status : machine.Answer → ℕ
answer_status (Code n) = n
answer_status Defined = 0
answer_status (NotDefined why) = 12

abbrev pub store_error_text : StoreError → Text
store_error_text store.Fault = codes "store Sf1"
store_error_text store.OtherSchema = codes "store Sf2"
store_error_text store.NoState = codes "store Sf3"
store_error_text store.Memory = codes "out of memory"

abbrev pub job_error_text : JobError → Text
job_error_text job.Memory = codes "out of memory"
job_error_text (job.Store why) = store_error_text why
job_error_text job.Write = codes "write"

-- a line of the program
abbrev pub program_line : Text → Text
program_line text = codes "smpe: " ++ (text ++ 10 ∷ [])

-- The line of a fault. If `clap` refused the words, its own text takes the place of the line; files that cannot be
-- carried have lines of their own before it.
abbrev pub fault_text : Fault → Text
fault_text (Job why) = program_line (job_error_text why)
fault_text (Arg arg.Memory) = program_line (codes "out of memory")
fault_text (Arg (arg.Clap own)) = []
fault_text (Arg arg.BadOperand) = program_line (codes "bad operand")
fault_text (CannotRead name) = program_line (codes "cannot read " ++ name.now)
fault_text NoCommand = program_line (codes "no command")
fault_text (NoZone zone) = program_line (codes "no zone " ++ zone)
fault_text (NotCarried lines) = lines.items ++ program_line (codes "the files cannot be carried")
fault_text NoSource = program_line (codes "no free source")
fault_text (CannotWrite name) = program_line (codes "cannot write " ++ name.now)

-- the status of a program that has none
abbrev pub fault_status : ℕ
fault_status = 16
