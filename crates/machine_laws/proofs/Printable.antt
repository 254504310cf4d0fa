-- What a statement of a file has in parentheses is printable, since the file's records are; and its parentheses are
-- paired.
use Rattle.std.proofs.Common.{◌≡◌, ◌&&◌, ◌==◌, ℕ, Bool, true, false, List, [], ◌∷◌, ◌++◌, drop, Option, Some, None}
use Rattle.std.proofs.Common.{refl, sym, subst, arith}
use Rattle.std.specs.Prelude.{IfSome, slice_index, if◌then◌else◌}
use Rattle.std.specs.List.{AllByRecursion, flat_map}
use Rattle.std.specs.Str.{bytes_eq}
use Rattle.std.proofs.lemmas.List.Elements.{All-filter, All-take, All-from_recursion, recursion_from_All}
use Rattle.terms.specs.declared.statement_words.StatementWord.{StatementWord}
use Rattle.terms.specs.Types.{Text, Lines}
use Rattle.terms.specs.Records.{IsPrintable, IsRecord, front}
use Rattle.terms.specs.Statement.{Piece, TheWord, TheList, Blank, Comment, Stray, followed, joined, behind_close}
use Rattle.terms.specs.Statement.{TakesPiece, HasPieces, is_solid, solid, IsStatement}
use Rattle.terms.specs.Words.{Word, list_pieces, word_pieces, HasWords}
use Rattle.terms.specs.Operands.{operand}
use Rattle.terms.specs.Statements.{statement_text}
use Rattle.terms.specs.Ptfin.{Parts, HasParts}
use Rattle.store_schema.specs.Forms.{IsPaired}
use Rattle.machine_laws.proofs.Paired.{list_paired}
use Rattle.terms.proofs.Each.{recursion_append, recursion_front, recursion_back}
use Rattle.terms.proofs.Searches.{All_find}

abbrev pub ArePrintable : Text → Type 0
ArePrintable text = AllByRecursion IsPrintable text

-- ---- columns 1 to 72

front_printable : (r : List ℕ) → IsRecord r → ArePrintable (front r)
front_printable r is = recursion_from_All IsPrintable (front r) (All-take IsPrintable 72 r is.1)

followed_printable : (records : Lines) → AllByRecursion IsRecord records → ArePrintable (followed records)
followed_printable [] each = tt
followed_printable (r ∷ rs) each = (
  (omega arith, omega arith),
  recursion_append IsPrintable (front r) (followed rs) (front_printable r each.0) (followed_printable rs each.1),
)

joined_printable : (records : Lines) → AllByRecursion IsRecord records → ArePrintable (joined records)
joined_printable [] each = tt
joined_printable (r ∷ rs) each = recursion_append IsPrintable (front r) (followed rs) (front_printable r each.0)
    (followed_printable rs each.1)

-- ---- pieces

-- a text that may stand in parentheses
abbrev pub IsInside : Text → Type 0
IsInside text = ArePrintable text × IsPaired text

-- the text of a piece in parentheses may stand there
abbrev pub HasPrintable : Piece → Type 0
HasPrintable (TheList list) = IsInside list
HasPrintable _ = Unit {0}

less_one : (text : Text) → ArePrintable text → ArePrintable (drop 1 text)
less_one [] each = tt
less_one (b ∷ bs) each = each.1

-- what follows a comment
closed_printable : (text after : Text) → behind_close text ≡ Some after → ArePrintable text → ArePrintable after
closed_printable [] after e each = absurd (cc e)
closed_printable (b ∷ bs) after e each = by (b == 42 && slice_index bs 0 == 47) e
    (λ later. closed_printable bs after later each.1)
  where
    by : (closes : Bool) → (if closes then Some (drop 1 bs) else behind_close bs) ≡ Some after
        → (behind_close bs ≡ Some after → ArePrintable after) → ArePrintable after
    by true same again = let is : drop 1 bs ≡ after = cc same in subst ArePrintable is (less_one bs each.1)
    by false same again = again same

piece_printable : (text : Text) (p : Piece) (after : Text) → TakesPiece text p after → ArePrintable text
    → HasPrintable p × ArePrintable after
piece_printable text (TheWord word) after takes each = (
  tt,
  recursion_back IsPrintable word after
      (subst ArePrintable takes.0 each),
)
piece_printable text (TheList list) after takes each =
    let inside : ArePrintable (list ++ 41 ∷ after) = (subst ArePrintable takes.0 each).1 in (
      (recursion_front IsPrintable list (41 ∷ after) inside, list_paired list after takes.1),
      (recursion_back IsPrintable list (41 ∷ after) inside).1,
    )
piece_printable text Blank after (b, is, blank) each = (tt, (subst ArePrintable is each).1)
piece_printable text Comment after (inside, is, closes) each =
    (tt, closed_printable inside after closes (subst ArePrintable is each).1.1)
piece_printable text (Stray b) after takes each = (tt, (subst ArePrintable takes.0 each).1)

pieces_printable : (ps : List Piece) (text rest : Text) → HasPieces text ps rest → ArePrintable text
    → AllByRecursion HasPrintable ps
pieces_printable [] text rest is each = tt
pieces_printable (p ∷ ps) text rest (after, takes, more) each =
    let has = piece_printable text p after takes each in
    (has.0, pieces_printable ps after rest more has.1)

solid_printable : (ps : List Piece) → AllByRecursion HasPrintable ps → AllByRecursion HasPrintable (solid ps)
solid_printable ps each = recursion_from_All HasPrintable (solid ps)
    (All-filter is_solid HasPrintable ps (All-from_recursion HasPrintable ps each))

statement_printable : (records : Lines) (pieces : List Piece) (inline : Lines) → IsStatement records pieces inline
    → AllByRecursion IsRecord records → AllByRecursion HasPrintable pieces
statement_printable records pieces inline (ps, tail, ends, idle, is) each =
    subst (λ qs. AllByRecursion HasPrintable qs) (sym is)
    (solid_printable ps
    (pieces_printable ps (joined records) (46 ∷ tail ++ followed inline) ends.has_pieces
    (joined_printable records each)))

-- ---- operands

-- the word's list may stand in parentheses, where it has one
abbrev pub HasPrintableList : Word → Type 0
HasPrintableList w = IfSome w.list IsInside

list_printable : (list : Option Text) → AllByRecursion HasPrintable (list_pieces list) → IfSome list IsInside
list_printable None h = tt
list_printable (Some text) h = h.0

words_printable : (words : List Word) → AllByRecursion HasPrintable (flat_map word_pieces words)
    → AllByRecursion HasPrintableList words
words_printable [] h = tt
words_printable (w ∷ ws) h = (
  list_printable w.list (recursion_front HasPrintable (list_pieces w.list) (flat_map word_pieces ws) h.1),
  words_printable ws (recursion_back HasPrintable (list_pieces w.list) (flat_map word_pieces ws) h.1),
)

-- the operands of a statement
pub operands_printable : (records : Lines) (p : Parts) (operands : List Word) → HasParts records p
    → HasWords p.rest operands → AllByRecursion IsRecord records → AllByRecursion HasPrintableList operands
operands_printable records p operands known are each =
    let pieces = statement_printable records known.pieces p.inline known.statement each in
    let first : List Piece = word_pieces (record { word = statement_text p.word; list = p.own }) in
    let behind = recursion_back HasPrintable first p.rest (subst (λ ps. AllByRecursion HasPrintable ps)
    known.begins.pieces_are pieces) in
    words_printable operands (subst (λ ps. AllByRecursion HasPrintable ps) are behind)

pub operand_printable : (name : Text) (words : List Word) → AllByRecursion HasPrintableList words
    → IfSome (operand name words) HasPrintableList
operand_printable name words each = by (operand name words) refl
  where
    by : (o : Option Word) → operand name words ≡ o → IfSome o HasPrintableList
    by None found = tt
    by (Some w) found = All_find HasPrintableList (λ (v : Word). bytes_eq v.word name) words w
        (All-from_recursion HasPrintableList words each) found
