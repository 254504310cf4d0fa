-- What a run does.
use Rattle.std.specs.Prelude.{◌≡◌, ◌⊎◌, ℕ, Bool, false, List, [], ◌∷◌, ◌++◌, Option, Some, None, Vec, map}
use Rattle.std.specs.Prelude.{All, codes, Result, Ok, Err, if◌then◌else◌, option_map, option_to_list}
use Rattle.std.specs.List.{flat_map}
use Rattle.std.specs.String.{string_bytes}
use Rattle.std.specs.declared.alloc.AllocError.{AllocError}
use Rattle.std.specs.declared.alloc.Global.{Global}
use Rattle.terms.specs.Lookups.{is_in}
use Rattle.terms.specs.Types as terms
use Rattle.terms.specs.Types.{Text}
use Rattle.mcs.specs.Files as ptfin
use Rattle.mcs.specs.HoldItems as hold
use Rattle.mcs.specs.declared.file.Item.{Item}
use Rattle.mcs.specs.declared.hold_item.HoldItem.{HoldItem}
use Rattle.intake_read.specs.Held.{held_places}
use Rattle.intake_read.specs.declared.items.WideFile.{WideFile}
use Rattle.intake_read.specs.declared.items.WideHold.{WideHold}
use Rattle.intake_holds.specs.Become.{Become}
use Rattle.intake_sysmod.specs.Users.{run_of}
use Rattle.intake_carry.specs.Carried.{FilesBecome}
use Rattle.intake_carry.specs.Unsure.{AreUnsure}
use Rattle.intake_carry.specs.declared.unsure.Unsure.{Unsure}
use Rattle.intake_asked.specs.Known.{IsKnownFile, IsGathered}
use Rattle.intake_asked.specs.declared.known.KnownFile.{KnownFile}
use Rattle.intake_asked.specs.declared.known.KnownSysmods.{KnownSysmods}
use Rattle.intake_asked.specs.declared.scan.WideCommand.{WideCommand}
use Rattle.intake_asked.specs.Said.{AreSaid}
use Rattle.intake_words.specs.Asking.{IsAsked, AsksForText}
use Rattle.intake_words.specs.declared.options.IntakeOptions.{IntakeOptions}
use Rattle.intake_service.specs.Carrying.{held_in, HasEachSysmod}
use Rattle.intake_command.specs.Acts.{HostAct, Gives, Begins, Finds, Compares, Drafts, Discards, Puts, Prints}
use Rattle.intake_command.specs.Acts.{FolderFiles, IsQuiet}
use Rattle.intake_command.specs.Files.{path_of, command_outputs, outputs_of, remarks_of, service_names, written_in}
use Rattle.intake_command.specs.Files.{first_line}
use Rattle.intake_command.specs.Keeping.{IsServiceFiles, IsCommandFiles}

abbrev pub folder_of : IntakeOptions → Text
folder_of asked = string_bytes asked.out

-- the files that it names
abbrev pub inputs : IntakeOptions → List Text
inputs asked = map string_bytes asked.files.items ++ option_to_list (option_map string_bytes asked.cntl)
    ++ map string_bytes asked.known.items

-- ---- before anything is read

-- A file that the remarks of an earlier run do not name was looked for, and does not exist.
abbrev pub looks_for : Text → List Text → Text → List HostAct
looks_for folder written name = if is_in written name then [] else Finds (path_of folder name) false ∷ []

abbrev pub looks : Text → List Text → List Text → List HostAct
looks folder written names = flat_map (looks_for folder written) names

-- No file that this run may write is another's: the remarks of an earlier run name it, or it does not exist.
abbrev pub AreOwn : IntakeOptions → List HostAct → Type 0
AreOwn asked acts = (start : Option Text) × (acts ≡ Begins (path_of (folder_of asked) (remarks_of asked)) start
    ∷ looks (folder_of asked) (written_in start) (outputs_of asked))

-- The input was compared with an output, and is of another file.
abbrev pub is_apart : Text → Text → Text → List HostAct
is_apart folder input output = Compares (path_of folder output) input false ∷ []

abbrev pub are_apart : Text → List Text → Text → List HostAct
are_apart folder outputs input = flat_map (is_apart folder input) outputs

-- Each of these names was compared with each file that may be written.
abbrev pub comparisons : Text → List Text → List Text → List HostAct
comparisons folder outputs names = flat_map (are_apart folder outputs) names

-- ---- a run over SYSMODs and holds

-- a file, and what states what it has
abbrev pub IsRead : Text → List WideFile → List HostAct → Type 0
IsRead name files acts = (file : WideFile) × (bytes : List ℕ) × (files ≡ file ∷ []) × (acts ≡ Gives name bytes ∷ [])

-- the files one by one, in order
abbrev pub AreRead : List Text → List WideFile → List HostAct → Type 0
AreRead names files acts = Become IsRead names files acts

-- Part of the remarks was drafted.
abbrev pub DraftsRemarks : Text → HostAct → Type 0
DraftsRemarks folder (Drafts into name bytes) = (into ≡ folder) × (name ≡ codes "remarks")
DraftsRemarks folder _ = ⊥

-- The remarks were drafted, beginning with the names of all files of the run, and the summary was printed. Then the
-- folder was given these items, with the remarks, and stand-ins just where they are asked for.
pub record KeepsService (folder : Text) (decided : Bool) (items : List terms.Item) (holds : List terms.HoldItem)
    (acts : List HostAct) : Type 0 where
  pub drafts : List HostAct
  pub drafted : All (DraftsRemarks folder) drafts
  pub summary : List ℕ
  pub kept : FolderFiles
  pub removed : List Text
  pub are_kept : IsServiceFiles items holds decided kept removed
  pub acts_are : acts ≡ Drafts folder (codes "remarks") (first_line (service_names decided)) ∷ drafts
      ++ Prints summary ∷ Puts folder kept removed ∷ []

-- The files that are named were read, one by one, and then those of --relfile; what their statements become was put
-- into the folder. `holds` are the holds outside SYSMODs that the readers of the files handed out, in order. With
-- status 0, each SYSMOD is carried, as each hold is with any status, and none of them meets one that is left out.
pub record ServesFiles (asked : IntakeOptions) (status : ℕ) (acts : List HostAct) : Type 0 where
  pub files : List WideFile
  pub reading : List HostAct
  pub read : AreRead (map string_bytes asked.files.items) files reading
  pub more : List HostAct
  pub quiet : All IsQuiet more
  pub holds : List WideHold
  pub held_are : held_places holds ≡ held_in files
  pub items : List Item
  pub outside : List HoldItem
  pub become : FilesBecome asked.decide files holds items outside
  pub unsure : List Unsure
  pub are_unsure : AreUnsure (run_of files) items unsure
  pub status_is : (status ≡ 0) ⊎ (status ≡ 4)
  pub each : status ≡ 0 → HasEachSysmod files items
  pub sure : status ≡ 0 → unsure ≡ []
  pub keeping : List HostAct
  pub keeps : KeepsService (folder_of asked) asked.decide (ptfin.items items) (hold.items outside) keeping
  pub acts_are : acts ≡ reading ++ more ++ keeping

-- ---- a run over a command file

-- a file of --known, and the SYSMODs that its bytes name
abbrev pub IsKnownRead : Text → List KnownFile → List HostAct → Type 0
IsKnownRead name files acts = (file : KnownFile) × (bytes : List ℕ) × (files ≡ file ∷ [])
    × (acts ≡ Gives name bytes ∷ []) × IsKnownFile bytes file

-- The files of --known were read one by one, in order, and these are the SYSMODs of all of them.
abbrev pub IsKnown : List Text → KnownSysmods → List HostAct → Type 0
IsKnown names known acts = (files : List KnownFile) × Become IsKnownRead names files acts × IsGathered files known

-- The first line of the remarks was drafted, which names the files of the run, and the summary was printed. Then the
-- folder was given these commands, with the remarks.
pub record KeepsCommands (folder : Text) (said : List terms.Command) (acts : List HostAct) : Type 0 where
  pub summary : List ℕ
  pub kept : FolderFiles
  pub removed : List Text
  pub are_kept : IsCommandFiles said kept removed
  pub acts_are : acts ≡ Drafts folder (codes "cntl.remarks") (first_line command_outputs) ∷ Prints summary
      ∷ Puts folder kept removed ∷ []

-- The command file was read, and the files of --known. The folder was given commands that say just what the shop's
-- commands ask for.
pub record ServesCommands (asked : IntakeOptions) (name : Text) (acts : List HostAct) : Type 0 where
  pub bytes : List ℕ
  pub commands : List WideCommand
  pub known : KnownSysmods
  pub more : List HostAct
  pub are_known : IsKnown (map string_bytes asked.known.items) known more
  pub said : List terms.Command
  pub are_said : AreSaid known commands said
  pub keeping : List HostAct
  pub keeps : KeepsCommands (folder_of asked) said keeping
  pub acts_are : acts ≡ Gives name bytes ∷ more ++ keeping

-- ---- how a run ends

-- It was a run over files, or over a command file. With status 12, the command file has words that are not carried, and
-- nothing was written.
abbrev pub Serves : IntakeOptions → Option Text → ℕ → List HostAct → Type 0
Serves asked None status acts = ServesFiles asked status acts
Serves asked (Some name) status acts = ((status ≡ 0) × ServesCommands asked name acts)
    ⊎ ((status ≡ 12) × All IsQuiet acts)

-- The folder has each file that it had: at most drafts were written into it, which have new names.
abbrev pub IsHarmless : Text → HostAct → Type 0
IsHarmless folder (Drafts into name bytes) = into ≡ folder
IsHarmless folder (Discards of) = of ≡ folder
IsHarmless folder (Puts into files removed) = ⊥
IsHarmless folder _ = Unit {0}

-- a run that ends with a fault: the folder has the files that it had, and the drafts of the run were removed
pub record Fails (folder : Text) (acts : List HostAct) : Type 0 where
  pub tried : List HostAct
  pub told : List HostAct
  pub harmless : All (IsHarmless folder) tried
  pub quiet : All IsQuiet told
  pub acts_are : acts ≡ tried ++ Discards folder ∷ told

-- what it does when it is known that no input would be replaced
abbrev pub EndsApart : IntakeOptions → ℕ → List HostAct → Type 0
EndsApart asked status acts = Serves asked (option_map string_bytes asked.cntl) status acts
    ⊎ ((status ≡ 16) × Fails (folder_of asked) acts)

pub data EndsChecked (asked : IntakeOptions) (status : ℕ) (acts : List HostAct) : Type 0 where
  -- An input may be a file that would be written: no folder was touched.
  EndsEqual : status ≡ 16 → All IsQuiet acts → EndsChecked asked status acts
  -- Each input was compared with each file that may be written, and is none of them.
  EndsServed : (rest : List HostAct)
      → acts ≡ comparisons (folder_of asked) (outputs_of asked) (inputs asked) ++ rest → EndsApart asked status rest
      → EndsChecked asked status acts

pub data EndsAsked (asked : IntakeOptions) (status : ℕ) (acts : List HostAct) : Type 0 where
  -- A file that would be written may be another's: no folder was touched.
  EndsBefore : status ≡ 16 → All IsQuiet acts → EndsAsked asked status acts
  -- No file that may be written is another's.
  EndsOwn : (looking rest : List HostAct) → AreOwn asked looking → acts ≡ looking ++ rest
      → EndsChecked asked status rest → EndsAsked asked status acts

pub data EndsWords (words : List Text) (status : ℕ) (acts : List HostAct) : Type 0 where
  -- They ask for help or for the version, and that was shown.
  EndsShown : status ≡ 0 → AsksForText words → All IsQuiet acts → EndsWords words status acts
  -- They cannot be carried out, or memory ran out: no folder was touched.
  EndsQuietly : status ≡ 16 → All IsQuiet acts → EndsWords words status acts
  -- This is what they ask for.
  EndsCalled : (asked : IntakeOptions) → IsAsked words asked → EndsAsked asked status acts → EndsWords words status acts

-- A run over the words of the command line. If memory runs out before they are known, it does nothing.
abbrev pub Ends : Result (Vec (Vec ℕ Global) Global) AllocError → ℕ → List HostAct → Type 0
Ends (Ok words) status acts = EndsWords (map (λ word. word.items) words.items) status acts
Ends (Err error) status acts = (status ≡ 16) × All IsQuiet acts
