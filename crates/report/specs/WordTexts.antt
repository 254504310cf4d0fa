-- The texts of words, and lines that belong to others.
use Rattle.std.specs.Prelude.{List, ◌∷◌, ◌++◌, codes, decimal, Option, option_map, if◌then◌else◌}
use Rattle.std.specs.List.{join_with_byte}
use Rattle.terms.specs.declared.kinds.ZoneKind.{ZoneKind}
use Rattle.terms.specs.Types.{Text, Applied}
use Rattle.machine.specs.Report.{detail_line, left_in, list_text, optional_text, applied_words}
use Rattle.report.specs.declared.line_words.LineWord.{LineWord}
use Rattle.report.specs.declared.line_words.LineWord.TheVariants as word

-- the word, followed by a colon
abbrev pub named : Text → Text
named text = text ++ codes ":"

-- the word for an applied SYSMOD and its date, or -
abbrev pub applied_text : ZoneKind → Option Applied → Text
applied_text kind applied = join_with_byte 32 (applied_words kind (option_map (λ a. a.date) applied))

abbrev pub word_text : LineWord → Text
word_text (word.Text text) = text.now
word_text (word.WithColon text) = named text.now
word_text (word.Optional text) = optional_text (option_map (λ t. t.now) text)
word_text (word.If holds first second) = if holds then first.now else second.now
word_text (word.Left places text) = left_in places text.now
word_text (word.Number n) = decimal n
word_text (word.Ids ids) = list_text ids.now
word_text (word.Sources sources) = list_text sources.now
word_text (word.Applied kind applied) = applied_text kind applied.now

-- a line after four blanks
abbrev pub inner_line : List Text → Text
inner_line words = 32 ∷ 32 ∷ detail_line words
