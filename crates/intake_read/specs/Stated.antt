-- The texts of a file's statements, as bytes.
use Rattle.std.specs.Prelude.{◌↔◌, ◌==◌, ◌||◌, ℕ, List, [], map, filter, length, nat_lt, Option, Some, None, option_map}
use Rattle.std.specs.Prelude.{Contains, Vec}
use Rattle.std.specs.List.{slice_split}
use Rattle.std.specs.declared.alloc.Global.{Global}
use Rattle.terms.specs.Types.{Text, Id}

abbrev pub texts : List (Vec ℕ Global) → List Text
texts stated = map (λ t. t.items) stated

abbrev pub text_in : Option (Vec ℕ Global) → Option Text
text_in stated = option_map (λ t. t.items) stated

-- what an operand's parentheses hold, and nothing where it has none
abbrev pub value_text : Option (Vec ℕ Global) → Text
value_text None = []
value_text (Some value) = value.items

-- the members of a list, with blanks or commas between them
abbrev pub members : Text → List Text
members list = filter (λ m. nat_lt 0 (length m)) (slice_split (λ b. b == 32 || b == 44) list)

-- the same ids, in whatever order
abbrev pub AreSame : List (Vec ℕ Global) → List Id → Type 0
AreSame stated ids = (x : Id) → Contains (texts stated) x ↔ Contains ids x
