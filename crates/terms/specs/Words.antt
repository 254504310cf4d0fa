-- The words of a statement or a command, and the members of their lists.
use Rattle.std.specs.Prelude.{◌≡◌, ◌≤◌, ◌≢◌, ◌<◌, ℕ, Bool, true, false, not, ◌==◌, ◌||◌, List, [], ◌∷◌, ◌++◌, length}
use Rattle.std.specs.Prelude.{map, All, AllPairs, ◌⊎◌, Option, Some, None}
use Rattle.std.specs.List.{flat_map}
use Rattle.terms.specs.Bytes.{blank, paren_open, paren_close, comma}
use Rattle.terms.specs.Types.{Text}
use Rattle.terms.specs.Statement.{Piece, TheWord, TheList}
use Rattle.terms.specs.Forms.{AreBlanks}

-- a word, and the text in the parentheses after it, if there are any
pub record Word : Type 0 where
  pub word : Text
  pub list : Option Text

abbrev pub list_pieces : Option Text → List Piece
list_pieces None = []
list_pieces (Some list) = TheList list ∷ []

abbrev pub word_pieces : Word → List Piece
word_pieces w = TheWord w.word ∷ list_pieces w.list

-- The pieces, without the gaps, are these words and nothing else: no other character, and no list without a word before
-- it.
abbrev pub HasWords : List Piece → List Word → Type 0
HasWords pieces words = pieces ≡ flat_map word_pieces words

-- the pieces do not begin with a list
abbrev pub BeginsNoList : List Piece → Type 0
BeginsNoList [] = Unit {0}
BeginsNoList (TheList list ∷ ps) = ⊥
BeginsNoList (_ ∷ ps) = Unit {0}

-- The pieces begin with the word and its list. If it has no list, none follows.
pub record TakesWord (pieces : List Piece) (w : Word) (rest : List Piece) : Type 0 where
  pub pieces_are : pieces ≡ word_pieces w ++ rest
  pub ends : w.list ≡ None → BeginsNoList rest

-- They do not begin with a word, but with a list or another character.
abbrev pub BeginsNoWords : List Piece → Type 0
BeginsNoWords [] = ⊥
BeginsNoWords (TheWord word ∷ ps) = ⊥
BeginsNoWords (_ ∷ ps) = Unit {0}

-- a character of a list's member, and one of a member's own list
abbrev pub is_member_byte : ℕ → Bool
is_member_byte b = not (b == blank || b == comma || b == paren_open || b == paren_close)

abbrev pub is_inner_byte : ℕ → Bool
is_inner_byte b = not (b == paren_open || b == paren_close)

-- nothing follows, or a character that fails the test
abbrev pub Stops : (ℕ → Bool) → Text → Type 0
Stops test [] = Unit {0}
Stops test (b ∷ bs) = test b ≡ false

-- The text begins with the word, which is as long as its characters allow.
pub record TakesRun (text word after : Text) : Type 0 where
  pub text_is : text ≡ word ++ after
  pub some : 0 < length word
  pub each : All (λ b. is_member_byte b ≡ true) word
  pub ends : Stops is_member_byte after

-- A list follows, perhaps after blanks.
abbrev pub BeginsInner : Text → Type 0
BeginsInner text = (gap rest : Text) × AreBlanks gap × (text ≡ gap ++ paren_open ∷ rest)

-- a member's own list, if it has one
abbrev pub TakesInner : Text → Option Text → Text → Type 0
TakesInner text None after = (text ≡ after) × (BeginsInner text → ⊥)
TakesInner text (Some list) after =
    (gap : Text) × AreBlanks gap × All (λ b. is_inner_byte b ≡ true) list
    × (text ≡ gap ++ (paren_open ∷ list ++ paren_close ∷ after))

-- a member with its own list, which only BYPASS has
abbrev pub TakesMember : Text → Word → Text → Type 0
TakesMember text m after = (behind : Text) × TakesRun text m.word behind × TakesInner behind m.list after

-- blanks, or one comma with blanks around it
abbrev pub IsSeparator : Text → Type 0
IsSeparator text = ((0 < length text) × AreBlanks text)
    ⊎ ((left right : Text) × (text ≡ left ++ comma ∷ right) × AreBlanks left × AreBlanks right)

-- what precedes the first member, and what precedes a later one
abbrev pub IsBefore : Bool → Text → Type 0
IsBefore true gap = AreBlanks gap
IsBefore false gap = IsSeparator gap

-- the first member, or a later one, with what precedes it
abbrev pub TakesNext : Bool → Text → Word → Text → Type 0
TakesNext first text m after = (gap next : Text) × (text ≡ gap ++ next) × IsBefore first gap × TakesMember next m after

-- After a member the text has these further ones.
abbrev pub HasMore : Text → List Word → Type 0
HasMore text [] = AreBlanks text
HasMore text (m ∷ ms) = (after : Text) × TakesNext false text m after × HasMore after ms

-- The text of a list has these members, at least one.
abbrev pub HasMembers : Text → List Word → Type 0
HasMembers text [] = ⊥
HasMembers text (m ∷ ms) = (after : Text) × TakesNext true text m after × HasMore after ms

-- a member without a list of its own
abbrev pub plain : Text → Word
plain text = record { word = text; list = None }

abbrev pub AreDistinct : List Text → Type 0
AreDistinct texts = AllPairs (λ a b. a ≢ b) texts

-- The list has these members, each of the form and each once.
pub record IsListOf (form : Text → Type 0) (text : Text) (members : List Text) : Type 0 where
  pub has_members : HasMembers text (map plain members)
  pub each : All form members
  pub distinct : AreDistinct members

-- The list has this one member, of the form.
pub record IsOneOf (form : Text → Type 0) (text member : Text) : Type 0 where
  pub has_member : HasMembers text (plain member ∷ [])
  pub form_is : form member

-- the limit of a list, in statements and in commands
abbrev pub IsShort : List Text → Type 0
IsShort texts = length texts ≤ 1000
