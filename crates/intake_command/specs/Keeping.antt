-- What is put into the folder.
use Rattle.std.specs.Prelude.{◌≡◌, ◌⊎◌, ℕ, Bool, List, [], ◌∷◌, Option, Some, None, is_some, codes}
use Rattle.std.specs.declared.io.Error.{Error}
use Rattle.terms.specs.Types as terms
use Rattle.terms.specs.Types.{Text}
use Rattle.terms.specs.Ptfin.{IsPtfin}
use Rattle.terms.specs.HoldFile.{IsHoldFile}
use Rattle.terms.specs.Commands.{IsCommandFile}
use Rattle.intake_command.specs.declared.surroundings.IntakeHost.{Ghosts}
use Rattle.intake_command.specs.Acts.{Puts, Leaves, FolderFiles}

-- PTFIN, the hold file, the stand-ins if the run has any, and the remarks
abbrev pub service_files : (ptfin hold : List ℕ) → Option (List ℕ) → (remarks : List ℕ) → FolderFiles
service_files ptfin hold None remarks =
    (codes "ptfin", ptfin) ∷ (codes "hold", hold) ∷ (codes "remarks", remarks) ∷ []
service_files ptfin hold (Some stand_ins) remarks =
    (codes "ptfin", ptfin) ∷ (codes "hold", hold) ∷ (codes "stand-ins", stand_ins) ∷ (codes "remarks", remarks) ∷ []

-- what a run without stand-ins removes: those of an earlier run
abbrev pub service_removals : Option (List ℕ) → List Text
service_removals None = codes "stand-ins" ∷ []
service_removals (Some stand_ins) = []

-- A PTFIN that is read as these items, a hold file that is read as these, and remarks, with stand-ins or without them.
abbrev pub IsServiceFiles : List terms.Item → List terms.HoldItem → Bool → FolderFiles → List Text → Type 0
IsServiceFiles items holds decided files removed = (ptfin hold remarks : List ℕ) × (stand_ins : Option (List ℕ))
    × IsPtfin ptfin items × IsHoldFile hold holds × (is_some stand_ins ≡ decided)
    × (files ≡ service_files ptfin hold stand_ins remarks) × (removed ≡ service_removals stand_ins)

-- a command file of these commands, and its remarks
abbrev pub IsCommandFiles : List terms.Command → FolderFiles → List Text → Type 0
IsCommandFiles commands files removed = (cntl remarks : List ℕ) × IsCommandFile cntl commands
    × (files ≡ (codes "cntl", cntl) ∷ (codes "cntl.remarks", remarks) ∷ []) × (removed ≡ [])

module _ {H : Type 0} (host : Ghosts H) where
  -- The folder was given such files, and such files were removed.
  abbrev pub KeepsFiles : H → Text → (FolderFiles → List Text → Type 0) → H → Type 0
  KeepsFiles h folder Are after =
      (files : FolderFiles) × (removed : List Text) × Are files removed × host.does h (Puts folder files removed) after

  -- The folder has the files that it had.
  abbrev pub KeepsNothing : H → Text → H → Type 0
  KeepsNothing h folder after = (after ≡ h) ⊎ ((error : Error) × host.does h (Leaves folder error) after)
