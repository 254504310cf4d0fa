-- What `invocation` returns.
use Rattle.std.specs.Prelude.{◌≡◌, ◌≢◌, List, [], Option, Some, None}
use Rattle.terms.specs.Types.{Text}
use Rattle.clap.specs.Words.{App, IsAmong, Row, fault_of, kind_of, subcommand_of}
use Rattle.clap.specs.declared.error.Error.{Error}
use Rattle.clap.specs.declared.error.kind.ErrorKind.TheVariants.{OutOfMemory}
use Rattle.smpe_invocation.specs.CommandLine.{IsCommandLine}
use Rattle.smpe_invocation.specs.Values.{HasValues}
use Rattle.smpe_invocation.specs.declared.fault.ArgFault.{ArgFault}
use Rattle.smpe_invocation.specs.declared.fault.ArgFault.TheVariants.{Memory, Clap, BadOperand}
use Rattle.smpe_invocation.specs.declared.asked.Invocation.{Invocation}

-- an error of `clap`
abbrev pub IsOfClap : Error → ArgFault → Type 0
IsOfClap error Memory = kind_of error ≡ OutOfMemory
IsOfClap error (Clap own) = (own ≡ error) × (kind_of error ≢ OutOfMemory)
IsOfClap error BadOperand = ⊥

-- a bad operand, if no invocation has what is asked for
abbrev pub Excludes : ArgFault → Type 0 → Type 0
Excludes Memory P = Unit {0}
Excludes (Clap error) P = ⊥
Excludes BadOperand P = P → ⊥

-- the invocation has the values of the subcommand that was found
abbrev pub IsMet : Option (Text × List Row) → Invocation → Type 0
IsMet None invocation = ⊥
IsMet (Some met) invocation = HasValues met invocation

-- `clap` takes the words, and these are the subcommand and the values that it finds
abbrev pub IsRead : List Text → Invocation → Type 0
IsRead words invocation = (app : App) × IsCommandLine app × (fault_of app words ≡ [])
    × IsMet (subcommand_of app words) invocation

-- memory ran out; or `clap` names a fault of the words; or `clap` takes them, and no invocation has the values that it
-- finds
abbrev pub IsRefused : List Text → ArgFault → Type 0
IsRefused words Memory = Unit {0}
IsRefused words (Clap error) = (app : App) × IsCommandLine app × IsAmong (kind_of error) (fault_of app words)
IsRefused words BadOperand = (app : App) × IsCommandLine app × (fault_of app words ≡ [])
    × ((invocation : Invocation) → IsMet (subcommand_of app words) invocation → ⊥)
