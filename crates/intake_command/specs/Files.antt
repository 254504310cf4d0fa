-- The files of the folder.
use Rattle.std.specs.Prelude.{ℕ, Bool, List, [], ◌∷◌, ◌++◌, Option, Some, None, codes, if◌then◌else◌}
use Rattle.std.specs.Prelude.{nat_eq}
use Rattle.std.specs.List.{flat_map, starts_with}
use Rattle.terms.specs.Types.{Text}
use Rattle.intake_words.specs.declared.options.IntakeOptions.{IntakeOptions}
use Rattle.intake_command.specs.declared.files.NamedFile.{NamedFile}

-- a file's name and its bytes
abbrev pub named : NamedFile → Text × List ℕ
named file = (file.name.now, file.bytes.items)

abbrev pub path_of : Text → Text → Text
path_of folder name = folder ++ codes "/" ++ name

-- ---- the files that a run may write: one over SYSMODs and holds, and one over a command file

abbrev pub service_outputs : List Text
service_outputs = codes "ptfin" ∷ codes "hold" ∷ codes "stand-ins" ∷ codes "remarks" ∷ []

abbrev pub command_outputs : List Text
command_outputs = codes "cntl" ∷ codes "cntl.remarks" ∷ []

module _ {X : Type 0} where
  abbrev pub outputs_for : Option X → List Text
  outputs_for None = service_outputs
  outputs_for (Some cntl) = command_outputs

  abbrev pub remarks_for : Option X → Text
  remarks_for None = codes "remarks"
  remarks_for (Some cntl) = codes "cntl.remarks"

abbrev pub outputs_of : IntakeOptions → List Text
outputs_of asked = outputs_for asked.cntl

abbrev pub remarks_of : IntakeOptions → Text
remarks_of asked = remarks_for asked.cntl

-- ---- the files that an earlier run wrote, as the first line of its remarks names them

-- a run over SYSMODs and holds without stand-ins
abbrev pub plain_files : List Text
plain_files = codes "ptfin" ∷ codes "hold" ∷ codes "remarks" ∷ []

-- a run over SYSMODs and holds, with stand-ins or without them
abbrev pub service_names : Bool → List Text
service_names decided = if decided then service_outputs else plain_files

abbrev pub first_line : List Text → Text
first_line names = codes "Written by smpe-intake:" ++ flat_map (λ name. codes " " ++ name) names ++ 10 ∷ []

abbrev pub begins_with : Text → Text → List Text → List Text → List Text
begins_with start line names others = if starts_with nat_eq start line then names else others

abbrev pub written : Text → List Text
written start = begins_with start (first_line plain_files) plain_files
    (begins_with start (first_line service_outputs) service_outputs
    (begins_with start (first_line command_outputs) command_outputs []))

abbrev pub written_in : Option Text → List Text
written_in None = []
written_in (Some start) = written start
