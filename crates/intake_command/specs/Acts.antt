-- What a run asks of its surroundings, and what they answer, one act after the other.
use Rattle.std.specs.Prelude.{ℕ, Bool, List, Option}
use Rattle.std.specs.declared.io.Error.{Error}
use Rattle.terms.specs.Types.{Text}

-- files of a folder, each with its name and its bytes
abbrev pub FolderFiles : Type 0
FolderFiles = List (Text × List ℕ)

pub data HostAct : Type 0 where
  -- The file of this name was read, and has these bytes.
  Gives : (name : Text) (bytes : List ℕ) → HostAct
  -- It was not read, for this error.
  Withholds : (name : Text) (error : Error) → HostAct
  -- The file of this path begins with these bytes, or there is no such file.
  Begins : (path : Text) (start : Option (List ℕ)) → HostAct
  -- Whether something has this path: a file, a folder, a link.
  Finds : (path : Text) (there : Bool) → HostAct
  -- Whether both names are of one file that exists.
  Compares : (one : Text) (other : Text) (same : Bool) → HostAct
  -- Bytes were appended to the draft of the file of this name, which has a new name that no other file had.
  Drafts : (folder : Text) (name : Text) (bytes : List ℕ) → HostAct
  -- The drafts of this run were removed from the folder, as far as that is possible.
  Discards : (folder : Text) → HostAct
  -- The folder has these files, each with what was drafted of it and then its bytes, and none of the removed ones.
  Puts : (folder : Text) (files : FolderFiles) (removed : List Text) → HostAct
  -- For this error, the folder has the files that it had.
  Leaves : (folder : Text) (error : Error) → HostAct
  -- Standard output took the text.
  Prints : (text : List ℕ) → HostAct
  -- Something else was said, or was to be printed and could not be.
  Speaks : HostAct

-- It writes nothing into a folder, and removes nothing from one.
abbrev pub IsQuiet : HostAct → Type 0
IsQuiet (Drafts folder name bytes) = ⊥
IsQuiet (Discards folder) = ⊥
IsQuiet (Puts folder files removed) = ⊥
IsQuiet _ = Unit {0}
