-- The names of stand-ins.
use Rattle.std.specs.Prelude.{ℕ, List, [], ◌∷◌, ◌++◌, ◌+◌, ◌*◌, ◌/◌, ◌%◌, codes, if◌then◌else◌, get_or}
use Rattle.std.specs.List.{fold}
use Rattle.std.specs.Str.{bytes_eq}
use Rattle.terms.specs.declared.kinds.ElemType.{ElemType}
use Rattle.terms.specs.Spelling.{type_text}
use Rattle.terms.specs.Types.{Text}

-- the word of the statement that brings the element: a ++ZAP is of a module, a ++JARUPD of a JAR
abbrev pub owner_word : Text → Text
owner_word word =
    if bytes_eq word (codes "ZAP") then codes "MOD" else
    if bytes_eq word (codes "JARUPD") then codes "JAR" else word

-- one byte more of a hash, of which there are as many as names of eight characters
abbrev pub hash_step : ℕ → ℕ → ℕ
hash_step hash byte = (hash * 1000003 + byte) % 3979699193691

abbrev pub hash_of : Text → ℕ
hash_of text = fold hash_step 0 text

-- the character of a digit to the base 39
abbrev pub character : ℕ → ℕ → ℕ
character hash power = get_or (codes "ABCDEFGHIJKLMNOPQRSTUVWXYZ$#@0123456789") (hash / power % 39) 0

-- the hash in eight characters
abbrev pub name_of : ℕ → Text
name_of hash =
    character hash 137231006679 ∷ character hash 3518743761 ∷ character hash 90224199 ∷ character hash 2313441
    ∷ character hash 59319 ∷ character hash 1521 ∷ character hash 39 ∷ character hash 1 ∷ []

-- The name of what stands for the element of this name, by the word of its statement: a hash of both.
abbrev pub stand_in_name : Text → Text → Text
stand_in_name word name = name_of (hash_of (owner_word word ++ codes "(" ++ name))

-- A number for an element, by which statements for it are found. Others may have it too.
abbrev pub key_of : ElemType → Text → ℕ
key_of type name = hash_of (type_text type ++ codes "(" ++ name)
