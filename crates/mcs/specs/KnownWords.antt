-- A statement of a known word, as the definitions see it.
use Rattle.std.specs.Prelude.{ℕ, List, Option}
use Rattle.terms.specs.declared.statement_words.StatementWord.{StatementWord}
use Rattle.terms.specs.declared.statement_words.StatementWord.TheVariants.{Header, Replace}
use Rattle.terms.specs.Statement.{Piece}
use Rattle.terms.specs.Ptfin.{Parts, these_parts}
use Rattle.rec80.specs.Views.{word_of}
use Rattle.mcs.specs.declared.begin.KnownStatement.{KnownStatement}

-- the list of the statement's word
abbrev pub own_list : KnownStatement → Option (List ℕ)
own_list b = (word_of b.first).list

-- its parts, given the pieces that its operands are read from
abbrev pub parts_of : KnownStatement → List Piece → Parts
parts_of b rest = these_parts b.word (own_list b) rest b.inline.now

-- The word names neither a kind nor a type.
abbrev pub IsFixed : StatementWord → Type 0
IsFixed (Header kind) = ⊥
IsFixed (Replace type) = ⊥
IsFixed _ = Unit {0}
