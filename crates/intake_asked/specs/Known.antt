-- The SYSMODs that are known besides those that the commands name, as the files of --known have them.
use Rattle.std.specs.Prelude.{◌≡◌, ◌⊎◌, ◌==◌, ◌||◌, ◌&&◌, ℕ, Bool, true, false, not, List, [], ◌∷◌, ◌++◌, All, IsTrue}
use Rattle.std.specs.Prelude.{Option, Some, None, Vec, filter, length, nat_lt, option_map, if◌then◌else◌}
use Rattle.std.specs.List.{flat_map, list_all, list_any, slice_split}
use Rattle.std.specs.declared.alloc.Global.{Global}
use Rattle.terms.specs.Forms.{IsId, IsSource}
use Rattle.terms.specs.Spelling.{kind_text}
use Rattle.terms.specs.Types.{Text}
use Rattle.intake_read.specs.declared.items.WideFile.{WideFile}
use Rattle.intake_read.specs.declared.items.WideSysmod.{WideSysmod}
use Rattle.intake_asked.specs.declared.known.KnownFile.{KnownFile}
use Rattle.intake_asked.specs.declared.known.KnownList.{KnownList}
use Rattle.intake_asked.specs.declared.known.KnownList.TheVariants.{Sysmods, BadLine}
use Rattle.intake_asked.specs.declared.known.KnownSysmod.{KnownSysmod}
use Rattle.intake_asked.specs.declared.known.KnownSysmods.{KnownSysmods}

-- ---- a list: a line for each SYSMOD

-- a blank, a comma, a bar, a quotation mark, a tab, a carriage return
abbrev pub is_separator : ℕ → Bool
is_separator b = b == 32 || b == 44 || b == 124 || b == 34 || b == 9 || b == 13

-- one of these, a dash or a plus sign
abbrev pub is_rule_byte : ℕ → Bool
is_rule_byte b = is_separator b || b == 45 || b == 43

abbrev pub lines_of : Text → List Text
lines_of bytes = slice_split (λ b. b == 10) bytes

abbrev pub words_of : Text → List Text
words_of line = filter (λ word. nat_lt 0 (length word)) (slice_split is_separator line)

-- an id, a type and source ids
abbrev pub HasWords : List Text → KnownSysmod → Type 0
HasWords (id ∷ kind ∷ sources) k = (k.id ≡ id) × IsId id × (kind_text k.kind ≡ kind) × (k.sources.items ≡ sources)
    × All IsSource sources
HasWords _ k = ⊥

-- A line is blank or a rule under titles, or it has a SYSMOD.
abbrev pub LineBecomes : Text → List KnownSysmod → Type 0
LineBecomes line known = (IsTrue (list_all is_rule_byte line) × (known ≡ []))
    ⊎ ((k : KnownSysmod) × (known ≡ k ∷ []) × HasWords (words_of line) k)

-- the first line, which may have titles
abbrev pub FirstBecomes : Text → List KnownSysmod → Type 0
FirstBecomes line known = LineBecomes line known
    ⊎ ((known ≡ []) × ((k : KnownSysmod) → HasWords (words_of line) k → ⊥))

abbrev pub LinesBecome : List Text → List KnownSysmod → Type 0
LinesBecome [] known = known ≡ []
LinesBecome (line ∷ lines) known =
    (here more : List KnownSysmod) × (known ≡ here ++ more) × LineBecomes line here × LinesBecome lines more

abbrev pub AreListed : List Text → List KnownSysmod → Type 0
AreListed [] known = known ≡ []
AreListed (line ∷ lines) known =
    (here more : List KnownSysmod) × (known ≡ here ++ more) × FirstBecomes line here × LinesBecome lines more

-- what `read_known` returns of these lines; nothing is said of a line that is not in form
abbrev pub HasListed : List Text → KnownList → Type 0
HasListed lines (Sysmods known) = AreListed lines known.items
HasListed lines (BadLine number) = Unit {0}

-- the same of lines after the first one, whose SYSMODs follow those of it
abbrev pub HasMore : List KnownSysmod → List Text → KnownList → Type 0
HasMore first lines (Sysmods known) = (more : List KnownSysmod) × (known.items ≡ first ++ more) × LinesBecome lines more
HasMore first lines (BadLine number) = Unit {0}

-- ---- a PTFIN: its SYSMODs, but for those whose id has not the form of one

abbrev pub StatedBecomes : WideSysmod → List KnownSysmod → Type 0
StatedBecomes stated known = ((known ≡ []) × (IsId stated.id.items → ⊥))
    ⊎ ((k : KnownSysmod) × (known ≡ k ∷ []) × (k.id ≡ stated.id.items) × (k.kind ≡ stated.kind))

abbrev pub AreStated : List WideSysmod → List KnownSysmod → Type 0
AreStated [] known = known ≡ []
AreStated (stated ∷ all) known =
    (here more : List KnownSysmod) × (known ≡ here ++ more) × StatedBecomes stated here × AreStated all more

-- ---- all files

-- The file is a PTFIN with these statements, and its SYSMODs are those that they state; or it is a list.
abbrev pub IsKnownFile : Text → KnownFile → Type 0
IsKnownFile bytes file =
    ((file.is_ptfin ≡ true) × (stated : WideFile) × AreStated stated.sysmods.items file.sysmods.items)
    ⊎ ((file.is_ptfin ≡ false) × AreListed (lines_of bytes) file.sysmods.items)

abbrev pub sysmods_of : List KnownFile → List KnownSysmod
sysmods_of files = flat_map (λ f. f.sysmods.items) files

-- nothing is known if there is no file
abbrev pub gathered : List KnownFile → Option (List KnownSysmod)
gathered [] = None
gathered (file ∷ files) = Some (sysmods_of (file ∷ files))

-- The SYSMODs of all files, and whether one of the files is a PTFIN.
abbrev pub IsGathered : List KnownFile → KnownSysmods → Type 0
IsGathered files known = (option_map (λ list. list.items) known.list ≡ gathered files)
    × (known.has_ptfin ≡ list_any (λ f. f.is_ptfin) files)

-- What is known when a command runs. After a RECEIVE of SYSMODs nothing is known without the PTFIN, as it may bring
-- any.
abbrev pub known_after : KnownSysmods → Bool → Option (Vec KnownSysmod Global)
known_after known received = if received && not known.has_ptfin then None else known.list
