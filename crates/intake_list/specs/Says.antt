-- What an entry says of a SYSMOD or an element.
use Rattle.std.specs.Prelude.{◌||◌, ◌&&◌, Bool, List, [], ◌∷◌, ◌++◌, if◌then◌else◌, codes}
use Rattle.std.specs.List.{list_any}
use Rattle.std.specs.Str.{bytes_eq}
use Rattle.terms.specs.Types.{Text}
use Rattle.intake_list.specs.declared.says.Stands.{Stands}
use Rattle.intake_list.specs.declared.says.Stands.TheVariants.{On, Superseded, Deleted, Off}
use Rattle.intake_list.specs.Rows.{word_at}
use Rattle.intake_list.specs.Entries.{ListKey, ListEntry}

abbrev pub is_among : List Text → Text → Bool
is_among words text = list_any (λ word. bytes_eq word text) words

-- whether the key has this name, as PRE VER(001) has the name PRE
abbrev pub has_name : Text → ListKey → Bool
has_name name key = bytes_eq (word_at key.name 0) name

abbrev pub values_of_key : Text → ListKey → List Text
values_of_key name key = if has_name name key then key.values else []

-- all values of the keys of this name
abbrev pub values_in : Text → List ListKey → List Text
values_in name [] = []
values_in name (key ∷ keys) = values_of_key name key ++ values_in name keys

abbrev pub values_under : Text → ListEntry → List Text
values_under name entry = values_in name entry.keys

-- whether a key of this name has the value
abbrev pub has_value : Text → Text → ListEntry → Bool
has_value name text entry = list_any (λ key. has_name name key && is_among key.values text) entry.keys

-- whether a SYSMOD is on. It is not if the list gives no STATUS, or only REC.
abbrev pub standing_of : ListEntry → Stands
standing_of entry =
    if has_value (codes "TYPE") (codes "SUPERSEDED") entry then Superseded
    else if has_value (codes "TYPE") (codes "DELETED") entry then Deleted
    else if has_value (codes "STATUS") (codes "APP") entry || has_value (codes "STATUS") (codes "ACC") entry then On
    else Off
