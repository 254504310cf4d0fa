-- In which order the files of a job are read, and which of their faults is reported.
use Rattle.std.specs.Prelude.{◌≡◌, ◌≢◌, ◌⊎◌, ℕ, List, [], ◌∷◌, ◌++◌, Option, Some, None, Result, Ok, Err}
use Rattle.std.specs.IoError.{error_kind}
use Rattle.std.specs.declared.io.Error.{Error}
use Rattle.std.specs.declared.io.ErrorKind.TheVariants.{OutOfMemory}
use Rattle.terms.specs.Types.{Text}
use Rattle.smpe_jobs.specs.declared.error.JobError.TheVariants.{Memory}
use Rattle.smpe_jobs.specs.declared.messages.Fault.{Fault}
use Rattle.smpe_jobs.specs.declared.messages.Fault.TheVariants.{Job, CannotRead}
use Rattle.smpe_command.specs.declared.host.Host.{Ghosts}

-- how the error of a read is reported
abbrev pub TellsRead : Text → Error → Fault → Type 0
TellsRead name error (Job Memory) = error_kind error ≡ OutOfMemory
TellsRead name error (CannotRead told) = (error_kind error ≢ OutOfMemory) × (told.now ≡ name)
TellsRead name error _ = ⊥

module _ {H D : Type 0} (host : Ghosts H D) where
  -- The file of this name has these bytes, or is not read. An option that is left out counts as an empty file.
  abbrev pub Reads : H → Option Text → Result (List ℕ) Fault → H → Type 0
  Reads h None (Ok bytes) after = (bytes ≡ []) × (after ≡ h)
  Reads h None (Err fault) after = ⊥
  Reads h (Some name) (Ok bytes) after = host.gives h name bytes after
  Reads h (Some name) (Err fault) after =
      (error : Error) × host.withholds h name error after × TellsRead name error fault

  -- The files are read one after the other, up to the first that cannot be read.
  abbrev pub ReadsAll : H → List (Option Text) → Result (List (List ℕ)) Fault → H → Type 0
  ReadsAll h [] (Ok files) after = (files ≡ []) × (after ≡ h)
  ReadsAll h [] (Err fault) after = ⊥
  ReadsAll h (name ∷ more) (Ok []) after = ⊥
  ReadsAll h (name ∷ more) (Ok (bytes ∷ rest)) after =
      (m : H) × Reads h name (Ok bytes) m × ReadsAll m more (Ok rest) after
  ReadsAll h (name ∷ more) (Err fault) after = Reads h name (Err fault) after
      ⊎ ((m : H) × (bytes : List ℕ) × Reads h name (Ok bytes) m × ReadsAll m more (Err fault) after)

  -- Some file is the first that cannot be read, or memory ran out after some first ones were read.
  abbrev pub FailsToRead : H → List (Option Text) → Fault → H → Type 0
  FailsToRead h names fault after = ReadsAll h names (Err fault) after
      ⊎ ((fault ≡ Job Memory) × (first rest : List (Option Text)) × (files : List (List ℕ)) × (names ≡ first ++ rest)
      × ReadsAll h first (Ok files) after)
