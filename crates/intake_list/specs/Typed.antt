-- What an entry says, by its keys.
use Rattle.std.specs.Prelude.{◌||◌, ◌&&◌, ◌-◌, ◌++◌, ℕ, Bool, false, not, List, Option, Some, None, if◌then◌else◌}
use Rattle.std.specs.Prelude.{codes}
use Rattle.std.specs.Prelude.{filter, length, take, drop, nat_lt, nat_le}
use Rattle.std.specs.List.{list_all}
use Rattle.std.specs.Str.{bytes_eq}
use Rattle.terms.specs.declared.kinds.Kind.{Kind}
use Rattle.terms.specs.declared.kinds.Kind.TheVariants.{Function, Ptf, Apar, Usermod}
use Rattle.terms.specs.Types.{Text}
use Rattle.intake_list.specs.Rows.{word_at}
use Rattle.intake_list.specs.Entries.{ListKey, ListEntry}
use Rattle.intake_list.specs.Says.{has_value, values_under}

-- ---- A SYSMOD

-- its type, if the list gives one. SUPERSEDED and DELETED are none.
abbrev pub type_of : ListEntry → Option Kind
type_of entry =
    if has_value (codes "TYPE") (codes "FUNCTION") entry then Some Function
    else if has_value (codes "TYPE") (codes "PTF") entry then Some Ptf
    else if has_value (codes "TYPE") (codes "APAR") entry then Some Apar
    else if has_value (codes "TYPE") (codes "USERMOD") entry then Some Usermod
    else None

-- whether a command broke off in the middle of it
abbrev pub is_broken : ListEntry → Bool
is_broken entry = has_value (codes "ERROR") (codes "YES") entry

-- the values of a key that has two names
abbrev pub values_under_either : Text → Text → ListEntry → List Text
values_under_either name other entry = values_under name entry ++ values_under other entry

-- its function and its requisites
pub record ListedNeeds : Type 0 where
  pub fmid : List Text
  pub pre : List Text
  pub req : List Text
  pub ifreq : List Text
  pub cifreq : List Text

abbrev pub needs_of : ListEntry → ListedNeeds
needs_of entry = record {
  fmid = values_under (codes "FMID") entry;
  pre = values_under (codes "PRE") entry;
  req = values_under (codes "REQ") entry;
  ifreq = values_under (codes "IFREQ") entry;
  cifreq = values_under (codes "CIFREQ") entry;
}

-- what it supersedes and deletes, and the SYSMODs that supersede or delete it
pub record ListedRemovals : Type 0 where
  pub sups : List Text
  pub sup_by : List Text
  pub deletes : List Text
  pub del_by : List Text

abbrev pub removals_of : ListEntry → ListedRemovals
removals_of entry = record {
  sups = values_under_either (codes "SUPING") (codes "SUP") entry;
  sup_by = values_under_either (codes "SUPBY") (codes "LASTSUP") entry;
  deletes = values_under (codes "DELETE") entry;
  del_by = values_under (codes "DELBY") entry;
}

-- NPRE and VERSION, its REWORK, and the date and time of its installation
pub record ListedOthers : Type 0 where
  pub npre : List Text
  pub version : List Text
  pub rework : List Text
  pub installed : List Text

abbrev pub others_of : ListEntry → ListedOthers
others_of entry = record {
  npre = values_under (codes "NPRE") entry;
  version = values_under (codes "VERSION") entry;
  rework = values_under (codes "REWORK") entry;
  installed = values_under (codes "INS") entry;
}

-- ---- An element

-- its owner and its level
pub record ListedLevel : Type 0 where
  pub fmid : List Text
  pub rmid : List Text
  pub umids : List Text

abbrev pub level_of : ListEntry → ListedLevel
level_of entry = record {
  fmid = values_under (codes "FMID") entry;
  rmid = values_under (codes "RMID") entry;
  umids = values_under (codes "UMID") entry;
}

-- the libraries where it is: those of DISTLIB and SYSLIB, and the words of LIBRARIES, such as DISTLIB=AMOD1
pub record ListedLibraries : Type 0 where
  pub distlib : List Text
  pub syslib : List Text
  pub libraries : List Text

abbrev pub libraries_of : ListEntry → ListedLibraries
libraries_of entry = record {
  distlib = values_under (codes "DISTLIB") entry;
  syslib = values_under (codes "SYSLIB") entry;
  libraries = values_under (codes "LIBRARIES") entry;
}

-- ---- Keys

-- the keys of elements that are no data elements
abbrev pub is_module_word : Text → Bool
is_module_word word =
    bytes_eq word (codes "MOD") || bytes_eq word (codes "ZAP") || bytes_eq word (codes "SZAP")
    || bytes_eq word (codes "XZAP") || bytes_eq word (codes "PROGRAM") || bytes_eq word (codes "JAR")
    || bytes_eq word (codes "JARUPD")

abbrev pub is_source_word : Text → Bool
is_source_word word =
    bytes_eq word (codes "MAC") || bytes_eq word (codes "MACUPD") || bytes_eq word (codes "SRC")
    || bytes_eq word (codes "SRCUPD")

-- the keys of data elements, and of files of a file system
abbrev pub is_book_word : Text → Bool
is_book_word word =
    bytes_eq word (codes "BOOK") || bytes_eq word (codes "BSIND") || bytes_eq word (codes "CGM")
    || bytes_eq word (codes "FONT") || bytes_eq word (codes "GDF") || bytes_eq word (codes "IMG")
    || bytes_eq word (codes "PSEG") || bytes_eq word (codes "PUBLB")

abbrev pub is_panel_word : Text → Bool
is_panel_word word =
    bytes_eq word (codes "CLIST") || bytes_eq word (codes "EXEC") || bytes_eq word (codes "HELP")
    || bytes_eq word (codes "MSG") || bytes_eq word (codes "PNL") || bytes_eq word (codes "SKL")
    || bytes_eq word (codes "TBL") || bytes_eq word (codes "TEXT")

abbrev pub is_data_word : Text → Bool
is_data_word word =
    bytes_eq word (codes "DATA") || bytes_eq word (codes "PARM") || bytes_eq word (codes "PROC")
    || bytes_eq word (codes "PROBJ") || bytes_eq word (codes "PRODXML") || bytes_eq word (codes "PRSRC")
    || bytes_eq word (codes "SAMP") || bytes_eq word (codes "USER")

abbrev pub is_file_word : Text → Bool
is_file_word word =
    bytes_eq word (codes "HFS") || bytes_eq word (codes "AIX") || bytes_eq word (codes "CLIENT")
    || bytes_eq word (codes "OS2") || bytes_eq word (codes "UNIX") || bytes_eq word (codes "WIN")
    || bytes_eq word (codes "SHELLSCR") || bytes_eq word (codes "UTIN") || bytes_eq word (codes "UTOUT")

abbrev pub is_plain_word : Text → Bool
is_plain_word word = is_book_word word || is_panel_word word || is_data_word word || is_file_word word

abbrev pub is_letter : ℕ → Bool
is_letter b = nat_le 65 b && nat_le b 90

abbrev pub is_small_digit : ℕ → Bool
is_small_digit b = nat_le 49 b && nat_le b 54

-- the same with the national language at its end, in three letters: HELPENU
abbrev pub is_national_word : Text → Bool
is_national_word word =
    if nat_lt 3 (length word)
    then is_plain_word (take (length word - 3) word) && list_all is_letter (drop (length word - 3) word)
    else false

-- the same with a digit from 1 to 6 at its end: UNIX1
abbrev pub is_numbered_word : Text → Bool
is_numbered_word word =
    if nat_lt 1 (length word)
    then is_plain_word (take (length word - 1) word) && list_all is_small_digit (drop (length word - 1) word)
    else false

abbrev pub is_element_word : Text → Bool
is_element_word word =
    is_module_word word || is_source_word word || is_plain_word word || is_national_word word || is_numbered_word word

-- whether a key names elements that a SYSMOD has
abbrev pub is_element_key : ListKey → Bool
is_element_key key = is_element_word (word_at key.name 0)

-- the keys that the records above have
abbrev pub is_need_word : Text → Bool
is_need_word word =
    bytes_eq word (codes "FMID") || bytes_eq word (codes "PRE") || bytes_eq word (codes "REQ")
    || bytes_eq word (codes "IFREQ") || bytes_eq word (codes "CIFREQ") || bytes_eq word (codes "TYPE")
    || bytes_eq word (codes "STATUS") || bytes_eq word (codes "ERROR")

abbrev pub is_removal_word : Text → Bool
is_removal_word word =
    bytes_eq word (codes "SUPING") || bytes_eq word (codes "SUP") || bytes_eq word (codes "SUPBY")
    || bytes_eq word (codes "LASTSUP") || bytes_eq word (codes "DELETE") || bytes_eq word (codes "DELBY")

abbrev pub is_other_word : Text → Bool
is_other_word word =
    bytes_eq word (codes "NPRE") || bytes_eq word (codes "VERSION") || bytes_eq word (codes "REWORK")
    || bytes_eq word (codes "INS")

abbrev pub is_level_word : Text → Bool
is_level_word word =
    bytes_eq word (codes "RMID") || bytes_eq word (codes "UMID") || bytes_eq word (codes "DISTLIB")
    || bytes_eq word (codes "SYSLIB") || bytes_eq word (codes "LIBRARIES")

abbrev pub is_known_word : Text → Bool
is_known_word word =
    is_need_word word || is_removal_word word || is_other_word word || is_level_word word || is_element_word word

abbrev pub is_unknown_key : ListKey → Bool
is_unknown_key key = not (is_known_word (word_at key.name 0))

-- the keys of elements that a SYSMOD has, and the keys that are not known
abbrev pub element_keys : ListEntry → List ListKey
element_keys entry = filter (λ key. is_element_key key) entry.keys

abbrev pub unknown_keys : ListEntry → List ListKey
unknown_keys entry = filter (λ key. is_unknown_key key) entry.keys
