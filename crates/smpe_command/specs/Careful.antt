-- What is looked at before a careful job runs.
use Rattle.std.specs.Prelude.{◌≡◌, ◌≢◌, ◌⊎◌, ◌++◌, ℕ, Bool, true, false, List, [], ◌∷◌, All, Contains, Result, Ok, Err}
use Rattle.std.specs.List.{flat_map}
use Rattle.sqlite.specs.Store.{Ghosts}
use Rattle.terms.specs.Types.{Text, Command, Set}
use Rattle.terms.specs.Commands.{CntlFault, IsCommandFile, IsCommandFileFault}
use Rattle.machine.specs.State.{global_name}
use Rattle.smpe_jobs.specs.Errors.{job_error}
use Rattle.smpe_jobs.specs.declared.error.JobError.TheVariants.{Memory}
use Rattle.smpe_jobs.specs.declared.messages.Fault.{Fault}
use Rattle.smpe_jobs.specs.declared.messages.Fault.TheVariants.{Job, NoCommand, NoZone}
use Rattle.store_schema.specs.declared.error.StoreError.{StoreError}
use Rattle.smpe_command.specs.declared.host.Host.{Ghosts as HostGhosts}
use Rattle.smpe_command.specs.Database.{NamesOver}

-- the zone that a command names as the next boundary, if it is a SET
abbrev pub zone_set : Command → List Text
zone_set (Set zone) = zone ∷ []
zone_set _ = []

-- the zones that SETs name, in the order of the commands
abbrev pub zones_set : List Command → List Text
zones_set commands = flat_map zone_set commands

-- The zone is the global one, or has one of these names.
abbrev pub IsDefined : List Text → Text → Type 0
IsDefined names zone = (zone ≡ global_name) ⊎ Contains names zone

-- The zone is the first of these that is not defined.
abbrev pub IsFirstUndefined : List Text → List Text → Text → Type 0
IsFirstUndefined names zones zone = (before after : List Text) × (zones ≡ before ++ zone ∷ after)
    × All (IsDefined names) before × ¬ IsDefined names zone

module _ {H D : Type 0} (host : HostGhosts H D) (g : Ghosts D) (h : H) (db : Text) (cntl : List ℕ) where
  -- These commands are the file's, and the names of all zones were loaded.
  abbrev pub LooksAt : List Command → List Text → H → Type 0
  LooksAt commands names after = IsCommandFile cntl commands × (commands ≢ [])
      × (found : _) × NamesOver host g h db (Ok found) after × (names ≡ found.items)

  -- The job may run: each zone that a SET names is defined, or the file has a fault, which the job reports.
  abbrev pub MayRun : H → Type 0
  MayRun after =
      ((commands : List Command) × (names : List Text) × LooksAt commands names after
      × All (IsDefined names) (zones_set commands))
      ⊎ ((fault : CntlFault) × IsCommandFileFault cntl fault × (after ≡ h))

  -- Nothing runs, for this reason: the file has no command; a zone that a SET names is not defined; memory ran out; or
  -- the names could not be loaded.
  abbrev pub IsRefused : Fault → H → Type 0
  IsRefused NoCommand after = IsCommandFile cntl [] × (after ≡ h)
  IsRefused (NoZone zone) after = (commands : List Command) × (names : List Text) × LooksAt commands names after
      × IsFirstUndefined names (zones_set commands) zone
  IsRefused (Job error) after = ((error ≡ Memory) × (after ≡ h))
      ⊎ ((why : StoreError) × NamesOver host g h db (Err why) after × (error ≡ job_error why))
  IsRefused _ after = ⊥

  abbrev pub ChecksCommands : Result (Unit {0}) Fault → H → Type 0
  ChecksCommands (Ok done) after = MayRun after
  ChecksCommands (Err fault) after = IsRefused fault after

  -- so only if the job is to be careful
  abbrev pub ChecksIfCareful : Bool → Result (Unit {0}) Fault → H → Type 0
  ChecksIfCareful true r after = ChecksCommands r after
  ChecksIfCareful false r after = (r ≡ Ok tt) × (after ≡ h)
