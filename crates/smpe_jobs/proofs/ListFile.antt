-- Commands of one record each, and the two that list a zone.
use Rattle.std.proofs.Common.{◌≡◌, ◌≤◌, ◌∙◌, ◌++◌, ◌-◌, ◌+◌, ℕ, List, [], ◌∷◌, codes, take, length, append_assoc, ap}
use Rattle.std.proofs.Common.{arith, refl, sym, Bool, true, false, Some, All, IsTrue, subst, append-nil, zero, suc}
use Rattle.std.specs.Prelude.{replicate, ◌==◌, ◌&&◌, nat_le}
use Rattle.std.proofs.lemmas.List.{length-append, length-replicate, replicate-append-replicate, take_at}
use Rattle.std.proofs.lemmas.List.Elements.{All-head, All-tail, All-weaker, All-append, All-from_recursion, All-nil}
use Rattle.std.proofs.lemmas.List.Elements.{All-cons}
use Rattle.std.proofs.lemmas.Bool.Decides.{nat_tests}
use Rattle.terms.specs.Types.{Text, Set, ListZone}
use Rattle.terms.specs.Forms.{IsZoneName, is_id_byte, is_word_byte}
use Rattle.terms.specs.Records.{IsRecord, IsPrintable, front}
use Rattle.terms.specs.Statement.{Piece, TheWord, TheList, Blank, Comment, Stray, HasPieces, solid}
use Rattle.terms.specs.Statement.{behind_list, followed, is_blank}
use Rattle.terms.specs.CommandCuts.{BeginsNoGap, TakesCommand}
use Rattle.terms.specs.CommandForms.{IsCommand}
use Rattle.terms.specs.Commands.{IsCommandFile}
use Rattle.terms.specs.Words.{Word, IsOneOf, BeginsInner, is_member_byte}
use Rattle.terms.specs.Lookups.{is_in}
use Rattle.std.specs.List.{list_all}
use Rattle.std.proofs.lemmas.Bool.{and_parts}
use Rattle.machine.specs.Report.{left_in}
use Rattle.smpe_jobs.specs.ListJob.{list_records}

-- blanks are a gap
blank_pieces : (n : ℕ) → (ps : List Piece) × HasPieces (replicate n 32) ps [] × (solid ps ≡ [])
blank_pieces zero = ([], refl, refl)
blank_pieces (suc n) = let more = blank_pieces n in
    (Blank ∷ more.0, (replicate n 32, (32, refl, refl), more.1), more.2)

-- no blank, comma or comment comes first
begins_word : (b : ℕ) (text : Text) → is_word_byte b ≡ true → BeginsNoGap (b ∷ text)
begins_word b text word (TheWord w) after t = refl
begins_word b text word (TheList l) after t = refl
begins_word b text word (Stray s) after t = refl
begins_word b text word Blank after t = let is : b ≡ t.0 = cc (t.1) in
    let blank : is_blank b ≡ true = subst (λ x. is_blank x ≡ true) (sym is) t.2 in
    absurd (grind (arith, nat_tests, word, blank))
begins_word b text word Comment after t = let is : b ≡ 47 = cc (t.1) in absurd (grind (arith, nat_tests, word, is))

-- one command in a record, with blanks behind it
one_command : (n : ℕ) (r : List ℕ) (later : List (List ℕ)) (head : Text) (k : ℕ) (own : List Piece)
    → front r ≡ head ++ 46 ∷ replicate k 32
    → HasPieces (head ++ (46 ∷ (replicate k 32 ++ followed later))) own (46 ∷ (replicate k 32 ++ followed later))
    → BeginsNoGap (front r ++ followed later)
    → TakesCommand n (r ∷ later) (solid own) n (n + 1) later
one_command n r later head k own line pieces dark = record {
  gap = [];
  own = own;
  tail = replicate k 32;
  begins = record {
    before = [];
    line = front r;
    later = later;
    place = record { at = r; head = []; records_are = refl; line_is = refl };
    is_gap = refl;
    has_pieces = refl;
    some = omega (arith, ap length line, length-append head (46 ∷ replicate k 32));
    no_gap = dark;
    number_is = omega arith;
  };
  ends = record {
    before = [];
    place = record { at = r; head = head; records_are = refl; line_is = line };
    has_pieces = subst (λ t. HasPieces t own (46 ∷ (replicate k 32 ++ followed later)))
        (sym (ap (λ t. t ++ followed later) line ∙ append_assoc head (46 ∷ replicate k 32) (followed later))) pieces;
  };
  idle = blank_pieces k;
  pieces_are = refl;
  next_is = omega arith;
}

-- columns 1 to 72 of a text that is filled up
front_filled : (text : Text) → length text ≤ 72 → front (left_in 80 text) ≡ text ++ replicate (72 - length text) 32
front_filled text short =
    let blanks : replicate (80 - length text) 32 ≡ replicate (72 - length text) 32 ++ replicate 8 32 =
    ap (λ n. replicate n 32) (omega (arith, short))
    ∙ sym (replicate-append-replicate (72 - length text) 8 32) in
    ap (λ t. take 72 (text ++ t)) blanks
    ∙ ap (take 72) (sym (append_assoc text (replicate (72 - length text) 32) (replicate 8 32)))
    ∙ take_at (text ++ replicate (72 - length text) 32) (replicate 8 32) 72
    (length-append text (replicate (72 - length text) 32)
    ∙ ap (λ k. length text + k) (length-replicate (72 - length text) 32) ∙ omega (arith, short))

printable_blanks : (n : ℕ) → All IsPrintable (replicate n 32)
printable_blanks zero = All-nil IsPrintable
printable_blanks (suc n) = All-cons IsPrintable 32 (replicate n 32) (omega arith, omega arith) (printable_blanks n)

id_printable : (b : ℕ) → IsTrue (is_id_byte b) → IsPrintable b
id_printable b h = (grind (arith, nat_tests, h), grind (arith, nat_tests, h))

-- a text of good bytes, filled up, is a record
filled_record : (text : Text) → length text ≤ 80 → All IsPrintable text → IsRecord (left_in 80 text)
filled_record text short each = (
  length-append text (replicate (80 - length text) 32)
      ∙ ap (λ k. length text + k) (length-replicate (80 - length text) 32) ∙ omega (arith, short),
  All-append IsPrintable text (replicate (80 - length text) 32) each (printable_blanks (80 - length text)),
)

-- no parenthesis stands in the text, so the next closing one closes the list
closes : (text after : Text) → All (λ b. IsTrue (is_id_byte b)) text
    → behind_list false (text ++ (41 ∷ after)) ≡ Some after
closes [] after each = refl
closes (b ∷ text) after each =
    let first : is_id_byte b ≡ true = All-head (λ b. IsTrue (is_id_byte b)) b text each in
    let no_open : (b == 40) ≡ false = grind (arith, nat_tests, first) in
    let no_close : (b == 41) ≡ false = grind (arith, nat_tests, first) in
    rw (no_open, no_close) (closes text after (All-tail (λ b. IsTrue (is_id_byte b)) b text each))

abbrev AreWordBytes : Text → Type 0
AreWordBytes text = All (λ b. IsTrue (is_word_byte b)) text

set_word : AreWordBytes (codes "SET")
set_word = All-from_recursion (λ b. IsTrue (is_word_byte b)) (codes "SET") (refl, (refl, (refl, tt)))

bdy_word : AreWordBytes (codes "BDY")
bdy_word = All-from_recursion (λ b. IsTrue (is_word_byte b)) (codes "BDY") (refl, (refl, (refl, tt)))

list_word : AreWordBytes (codes "LIST")
list_word = All-from_recursion (λ b. IsTrue (is_word_byte b)) (codes "LIST") (refl, (refl, (refl, (refl, tt))))

-- the pieces of SET
abbrev set_pieces : Text → List Piece
set_pieces zone = TheWord (codes "SET") ∷ Blank ∷ TheWord (codes "BDY") ∷ TheList zone ∷ []

has_set : (zone after : Text) → All (λ b. IsTrue (is_id_byte b)) zone
    → HasPieces (codes "SET BDY(" ++ (zone ++ (41 ∷ (46 ∷ after)))) (set_pieces zone) (46 ∷ after)
has_set zone after each =
    let t4 : Text = 46 ∷ after in
    let t3 : Text = 40 ∷ (zone ++ (41 ∷ t4)) in
    let t2 : Text = codes "BDY" ++ t3 in
    let t1 : Text = 32 ∷ t2 in (
      t1,
      (refl, (omega arith, set_word), refl),
      (
        t2,
        (32, refl, refl),
        (
          t3,
          (refl, (omega arith, bdy_word), refl),
          (t4, (refl, closes zone t4 each), refl),
        ),
      ),
    )

has_list : (after : Text) → HasPieces (codes "LIST" ++ (46 ∷ after)) (TheWord (codes "LIST") ∷ []) (46 ∷ after)
has_list after = (
  46 ∷ after,
  (refl, (omega arith, list_word), refl),
  refl,
)

no_inner : (gap rest : Text) → [] ≡ gap ++ (40 ∷ rest) → ⊥
no_inner [] rest is = absurd (cc (is))
no_inner (b ∷ gap) rest is = absurd (cc (is))

inner_none : BeginsInner [] → ⊥
inner_none inner = absurd (no_inner inner.0 inner.1 inner.3)

-- a member without blanks is one of a list
only_member : (zone : Text) → IsZoneName zone → IsOneOf IsZoneName zone zone
only_member zone name = record {
  has_member = (
    [],
    (
      [],
      zone,
      refl,
      All-nil (λ b. b ≡ 32),
      (
        [],
        record {
          text_is = sym (append-nil zone);
          some = omega (arith, name.0.0);
          each = All-weaker (λ b. IsTrue (is_id_byte b)) (λ b. is_member_byte b ≡ true)
              (λ b h. grind (arith, nat_tests, h)) zone name.0.2;
          ends = tt;
        },
        (refl, inner_none),
      ),
    ),
    All-nil (λ b. b ≡ 32),
  );
  form_is = name;
}

abbrev set_words : Text → List Word
set_words zone = record { word = codes "BDY"; list = Some zone } ∷ []

is_set : (zone : Text) → IsZoneName zone → IsCommand (solid (set_pieces zone)) (Set zone)
is_set zone name = record {
  rest = TheWord (codes "BDY") ∷ TheList zone ∷ [];
  words = set_words zone;
  begins = refl;
  has_words = refl;
  are_operands = record {
    known = All-from_recursion (λ (w : Word). IsTrue (is_in (codes "BDY" ∷ []) w.word)) (set_words zone) (refl, tt);
    once = λ i j d after below. absurd (omega (arith, after, below));
  };
  has_operands = only_member zone name;
}

is_list : IsCommand (TheWord (codes "LIST") ∷ []) (ListZone false)
is_list = record {
  rest = [];
  words = [];
  begins = refl;
  has_words = refl;
  are_operands = record {
    known = All-nil (λ (w : Word). IsTrue (is_in (codes "TEXT" ∷ []) w.word));
    once = λ i j d after below. absurd (omega (arith, after, below));
  };
  has_operands = refl;
}

-- the record of SET is filled from columns 1 to 72
set_line : (zone : Text) → length zone ≤ 7
    → front (left_in 80 (codes "SET BDY(" ++ (zone ++ codes ").")))
    ≡ (codes "SET BDY(" ++ (zone ++ (41 ∷ [])))
    ++ (46 ∷ replicate (72 - length (codes "SET BDY(" ++ (zone ++ codes ")."))) 32)
set_line zone short =
    let n = 72 - length (codes "SET BDY(" ++ (zone ++ codes ").")) in
    front_filled (codes "SET BDY(" ++ (zone ++ codes ")."))
    (omega (arith, short, length-append zone (codes ").")))
    ∙ ap (λ t. codes "SET BDY(" ++ t) (append_assoc zone (codes ").") (replicate n 32)
    ∙ sym (append_assoc zone (41 ∷ []) (46 ∷ replicate n 32)))

abbrev is_printable : ℕ → Bool
is_printable b = nat_le 32 b && nat_le b 126

printable_from : (text : Text) → list_all is_printable text ≡ true → All IsPrintable text
printable_from [] h = All-nil IsPrintable
printable_from (b ∷ text) h = let parts = and_parts (is_printable b) (list_all is_printable text) h in
    All-cons IsPrintable b text (grind (arith, nat_tests, parts.0), grind (arith, nat_tests, parts.0))
    (printable_from text parts.1)

set_printable : (zone : Text) → All (λ b. IsTrue (is_id_byte b)) zone
    → All IsPrintable (codes "SET BDY(" ++ (zone ++ codes ")."))
set_printable zone each =
    All-append IsPrintable (codes "SET BDY(") (zone ++ codes ").") (printable_from (codes "SET BDY(") refl)
    (All-append IsPrintable zone (codes ").") (All-weaker (λ b. IsTrue (is_id_byte b)) IsPrintable id_printable zone
    each)
    (printable_from (codes ").") refl))

list_printable : All IsPrintable (codes "LIST.")
list_printable = printable_from (codes "LIST.") refl

-- The records that list a zone are SET and LIST.
pub lists_zone : (zone : Text) → IsZoneName zone → IsCommandFile (list_records zone) (Set zone ∷ ListZone false ∷ [])
lists_zone zone name =
    let set : Text = codes "SET BDY(" ++ (zone ++ codes ").") in
    let one : List ℕ = left_in 80 set in
    let two : List ℕ = left_in 80 (codes "LIST.") in
    let n = 72 - length set in
    let short : length zone ≤ 7 = name.0.1 in
    let long : length set ≤ 17 = omega (arith, short, length-append zone (codes ").")) in
    let head : Text = codes "SET BDY(" ++ (zone ++ (41 ∷ [])) in
    let first : TakesCommand 1 (one ∷ two ∷ []) (solid (set_pieces zone)) 1 2 (two ∷ []) =
    one_command 1 one (two ∷ []) head n (set_pieces zone) (set_line zone short)
    (subst (λ t. HasPieces (codes "SET BDY(" ++ t) (set_pieces zone) (46 ∷ (replicate n 32 ++ followed (two ∷ []))))
    (sym (append_assoc zone (41 ∷ []) (46 ∷ (replicate n 32 ++ followed (two ∷ [])))))
    (has_set zone (replicate n 32 ++ followed (two ∷ [])) name.0.2))
    (subst (λ t. BeginsNoGap (t ++ followed (two ∷ []))) (sym (set_line zone short)) (begins_word 83 _ refl)) in
    let second : TakesCommand 2 (two ∷ []) (TheWord (codes "LIST") ∷ []) 2 3 [] =
    one_command 2 two [] (codes "LIST") 67 (TheWord (codes "LIST") ∷ []) (front_filled (codes "LIST.") (omega arith))
    (has_list (replicate 67 32 ++ [])) (begins_word 76 _ refl) in (
      one ∷ two ∷ [],
      [],
      3,
      record {
        bytes_are = ap (λ t. one ++ t) (sym (append-nil two));
        each = All-cons IsRecord one (two ∷ [])
            (filled_record set (omega (arith, long)) (set_printable zone name.0.2))
            (All-cons IsRecord two [] (filled_record (codes "LIST.") (omega arith) list_printable) (All-nil IsRecord));
      },
      (
        solid (set_pieces zone),
        1,
        2,
        two ∷ [],
        first,
        is_set zone name,
        (TheWord (codes "LIST") ∷ [], 2, 3, [], second, is_list, (refl, refl)),
      ),
      ([], refl, refl),
    )
