-- The program: which status it returns, and what goes to which stream.
use Rattle.std.specs.Prelude.{◌≡◌, ◌⊎◌, ℕ, Bool, false, true, List, Result, Ok, Err}
use Rattle.clap.specs.Words.{kind_of}
use Rattle.clap.specs.declared.error.kind.ErrorKind.{ErrorKind}
use Rattle.clap.specs.declared.error.kind.ErrorKind.TheVariants.{DisplayHelp, DisplayVersion}
use Rattle.sqlite.specs.Store.{Ghosts}
use Rattle.sqlite_disk.specs.declared.Disk as disk
use Rattle.report.specs.declared.sink.Sink.{Ghosts as SinkGhosts}
use Rattle.report.specs.Sent.{Sent}
use Rattle.smpe_invocation.specs.declared.asked.Invocation.{Invocation}
use Rattle.smpe_invocation.specs.declared.fault.ArgFault.{ArgFault}
use Rattle.smpe_invocation.specs.declared.fault.ArgFault.TheVariants.{Clap}
use Rattle.smpe_jobs.specs.declared.messages.Fault.{Fault}
use Rattle.smpe_jobs.specs.declared.messages.Fault.TheVariants.{Arg}
use Rattle.smpe_jobs.specs.Messages.{fault_status, fault_text}
use Rattle.smpe_command.specs.declared.host.Host.{Ghosts as HostGhosts}
use Rattle.smpe_command.specs.Asking.{IsAsked, IsUnasked}
use Rattle.smpe_command.specs.Serving.{Serves}

-- the text of an error of `clap` is shown, and nothing is for another fault
abbrev pub Shows : {H D : Type 0} → HostGhosts H D → H → Fault → H → Type 0
Shows host h (Arg (Clap error)) after = host.shows h error after
Shows host h _ after = after ≡ h

-- the words ask for a text of `clap`'s, as `--help` and `--version` do
abbrev pub is_text_kind : ErrorKind → Bool
is_text_kind DisplayHelp = true
is_text_kind DisplayVersion = true
is_text_kind _ = false

abbrev pub is_text : ArgFault → Bool
is_text (Clap error) = is_text_kind (kind_of error)
is_text _ = false

-- the text of an error of `clap` is printed
abbrev pub Prints : {H D : Type 0} → HostGhosts H D → H → ArgFault → H → Type 0
Prints host h (Clap error) after = host.prints h error after
Prints host h _ after = after ≡ h

module _ {H D E : Type 0} (host : HostGhosts H D) (stderr : SinkGhosts E) where
  -- A fault is reported on standard error, and the status is 16, whether or not its line goes out.
  abbrev pub Tells : H → E → Fault → ℕ → H → E → Type 0
  Tells h err fault status after err' =
      Shows host h fault after × Sent stderr err err' (fault_text fault) × (status ≡ fault_status)

  -- The text for which the words ask is printed, and the status is 0, or their fault is reported.
  abbrev pub TellsWords : H → E → ArgFault → ℕ → H → E → Type 0
  TellsWords h err fault status after err' =
      ((is_text fault ≡ true) × Prints host h fault after × (status ≡ 0) × (err' ≡ err))
      ⊎ ((is_text fault ≡ false) × Tells h err (Arg fault) status after err')

  -- nothing is reported about a success
  abbrev pub TellsResult : H → E → Result ℕ Fault → ℕ → H → E → Type 0
  TellsResult h err (Ok code) status after err' = (status ≡ code) × (after ≡ h) × (err' ≡ err)
  TellsResult h err (Err fault) status after err' = Tells h err fault status after err'

module _ {H D M O E : Type 0} (host : HostGhosts H D) (g : Ghosts D) (memory : disk.Ghosts M)
    (stdout : SinkGhosts O) (stderr : SinkGhosts E) where
  -- What the words ask for is done, and reported if it failed. Or they ask for a text or have a fault, and nothing is
  -- done.
  abbrev pub Answers : List (List ℕ) → H → O → E → ℕ → H → O → E → Type 0
  Answers words h out err status after out' err' =
      ((asked : Invocation) × IsAsked words asked × (m : H) × (r : Result ℕ Fault)
      × Serves host g memory stdout h asked out r m out' × TellsResult host stderr m err r status after err')
      ⊎ ((fault : ArgFault) × IsUnasked words fault × TellsWords host stderr h err fault status after err'
      × (out' ≡ out))
