-- What the types of this crate stand for.
use Rattle.std.specs.Prelude.{ℕ, List, map, option_map}
use Rattle.terms.specs.Groups as groups
use Rattle.terms.specs.Words as grammar
use Rattle.rec80.specs.declared.groups.Group.{Group}
use Rattle.rec80.specs.declared.words.Word.{Word}
use Rattle.rec80.specs.declared.words.Words.{Words}
use Rattle.rec80.specs.Cursors.{rest_of, text_of}

abbrev pub group_of : Group → groups.Group
group_of g = record { number = g.number; records = g.records.now }

-- the text from here on, before and after the period
abbrev pub left_of : Words → List ℕ
left_of words = rest_of words.rest

abbrev pub word_of : Word → grammar.Word
word_of w = record { word = w.word.now; list = option_map text_of w.list }

abbrev pub words_of : List Word → List grammar.Word
words_of ws = map word_of ws
