-- A statement and its fault are determined, and no records have both.
use Rattle.std.specs.Prelude.{if◌then◌else◌, ◌==◌}
use Rattle.std.proofs.Common.{◌≡◌, ◌<◌, ℕ, List, [], ◌∷◌, ◌++◌, length, refl, sym, ◌∙◌, ap, subst, arith, length-append}
use Rattle.std.proofs.Common.{inl, inr}
use Rattle.std.proofs.lemmas.List.{append_cancel_right}
use Rattle.std.proofs.lemmas.List.Concat.{flat_map-append}
use Rattle.terms.specs.Types.{Text}
use Rattle.terms.specs.Records.{front}
use Rattle.terms.specs.Statement.{Piece, HasPieces, solid, joined, followed, Ends, IsIdle, IsStatement, StFault}
use Rattle.terms.specs.Statement.{NoPeriod}
use Rattle.terms.specs.Statement.{OpenComment, BadParens, TextAfterPeriod, BreaksOff, IsStFault, OpensComment}
use Rattle.terms.specs.Statement.{BreaksPairs}
use Rattle.terms.proofs.Pieces.{IsStop, stop_nil, stop_period, stop_comment, stop_pairs, pieces_only}

abbrev rest_text : Text → List (List ℕ) → Text
rest_text line later = line ++ followed later

-- A place in a later record has less text behind it.
longer : (at : List ℕ) (head line : Text) (before later : List (List ℕ)) → front at ≡ head ++ line
    → length (rest_text line later) < length (followed (before ++ at ∷ later))
longer at head line before later is =
    let whole = flat_map-append (λ r. 32 ∷ front r) before (at ∷ later) in
    omega (
      arith,
      ap length whole,
      length-append (followed before) (followed (at ∷ later)),
      length-append (32 ∷ front at) (followed later),
      ap length is,
      length-append head line,
      length-append line (followed later),
    )

-- A place is determined by what follows it.
pub place_only : (before before' : List (List ℕ)) (at at' : List ℕ) (head head' line line' : Text)
    (later later' : List (List ℕ)) → before ++ at ∷ later ≡ before' ++ at' ∷ later' → front at ≡ head ++ line
    → front at' ≡ head' ++ line'
    → rest_text line later ≡ rest_text line' later' → (before ≡ before') × (line ≡ line') × (later ≡ later')
place_only [] [] at at' head head' line line' later later' records_are is is' same =
    let laters : later ≡ later' = cc (records_are) in
    let lines : line ≡ line' = append_cancel_right line line' (followed later')
    (ap (λ l. line ++ followed l) (sym laters) ∙ same) in
    (refl, lines, laters)
place_only [] (b ∷ before') at at' head head' line line' later later' records_are is is' same =
    let laters : later ≡ before' ++ at' ∷ later' = cc (records_are) in
    absurd (omega (
      arith,
      longer at' head' line' before' later' is',
      ap length same,
      ap (λ l. length (followed l)) laters,
      length-append line (followed later),
    ))
place_only (b ∷ before) [] at at' head head' line line' later later' records_are is is' same =
    let laters : before ++ at ∷ later ≡ later' = cc (records_are) in
    absurd (omega (
      arith,
      longer at head line before later is,
      ap length same,
      ap (λ l. length (followed l)) laters,
      length-append line' (followed later'),
    ))
place_only (b ∷ before) (b' ∷ before') at at' head head' line line' later later' records_are is is' same =
    let more = place_only before before' at at' head head' line line' later later' (cc (records_are)) is is' same in
    let first : b ≡ b' = cc (records_are) in
    (cc (first, more.0), more.1, more.2)

-- Where a statement ends is determined.
pub ends_only : (records : List (List ℕ)) (ps qs : List Piece) (tail tail' : Text) (inline inline' : List (List ℕ))
    → Ends records ps tail inline → Ends records qs tail' inline' → (ps ≡ qs) × (tail ≡ tail') × (inline ≡ inline')
ends_only records ps qs tail tail' inline inline' e f =
    let pieces = pieces_only (joined records) ps qs (46 ∷ tail ++ followed inline) (46 ∷ tail' ++ followed inline')
    e.has_pieces (stop_period (tail ++ followed inline)) f.has_pieces (stop_period (tail' ++ followed inline'))
    in
    let place = place_only e.before f.before e.place.at f.place.at e.place.head f.place.head (46 ∷ tail) (46 ∷ tail')
    inline inline' (sym e.place.records_are ∙ f.place.records_are) e.place.line_is f.place.line_is pieces.1 in
    (pieces.0, cc (place.1), place.2)

pub statement_only : (records : List (List ℕ)) (pieces others : List Piece) (inline inline' : List (List ℕ))
    → IsStatement records pieces inline → IsStatement records others inline' → (pieces ≡ others) × (inline ≡ inline')
statement_only records pieces others inline inline' s t =
    let same = ends_only records s.0 t.0 s.1 t.1 inline inline' s.2 t.2 in
    (s.4 ∙ ap solid same.0 ∙ sym t.4, same.2)

first_byte : (a b : ℕ) (s t : Text) → a ∷ s ≡ b ∷ t → a ≡ b
first_byte a b s t e = cc (e)

no_period : (rest after : Text) → OpensComment rest → rest ≡ 46 ∷ after → ⊥
no_period rest after o e =
    let b = first_byte 47 46 (42 ∷ o.0) after (sym o.1 ∙ e) in
    omega (arith, b)

pairs_no_period : (rest after : Text) → BreaksPairs rest → rest ≡ 46 ∷ after → ⊥
pairs_no_period rest after o e =
    elim o.1 [
      | inl is ↦ let b = first_byte 41 46 o.0 after (sym is ∙ e) in omega (arith, b)
      | inr is ↦ let b = first_byte 40 46 o.0 after (sym is.0 ∙ e) in omega (arith, b)
    ]

-- What breaks off does not end well.
pub breaks_not_ends : (records : List (List ℕ)) (qs ps : List Piece) (why : StFault) (tail : Text)
    (inline : List (List ℕ)) → BreaksOff records qs why → Ends records ps tail inline → IsIdle tail → ⊥
breaks_not_ends records qs ps NoPeriod tail inline b e idle =
    let same = pieces_only (joined records) qs ps [] (46 ∷ tail ++ followed inline) b stop_nil e.has_pieces
    (stop_period (tail ++ followed inline)) in
    cc (same.1)
breaks_not_ends records qs ps OpenComment tail inline b e idle =
    let same = pieces_only (joined records) qs ps b.0 (46 ∷ tail ++ followed inline) b.1 (stop_comment b.0 b.2)
    e.has_pieces (stop_period (tail ++ followed inline)) in
    no_period b.0 (tail ++ followed inline) b.2 same.1
breaks_not_ends records qs ps BadParens tail inline b e idle =
    let same = pieces_only (joined records) qs ps b.0 (46 ∷ tail ++ followed inline) b.1 (stop_pairs b.0 b.2)
    e.has_pieces (stop_period (tail ++ followed inline)) in
    pairs_no_period b.0 (tail ++ followed inline) b.2 same.1
breaks_not_ends records qs ps TextAfterPeriod tail inline b e idle =
    let same = ends_only records qs ps b.0 tail b.1 inline b.2 e in
    b.3 (subst IsIdle (sym same.1) idle)

-- No records are both a statement and at fault.
pub fault_no_statement : (records : List (List ℕ)) (why : StFault) (pieces : List Piece) (inline : List (List ℕ))
    → IsStFault records why → IsStatement records pieces inline → ⊥
fault_no_statement records why pieces inline f s = breaks_not_ends records f.0 s.0 why s.1 inline f.1 s.2 s.3

-- the fault that shows where pieces stop
abbrev fault_at : Text → StFault
fault_at [] = NoPeriod
fault_at (b ∷ bs) = if b == 47 then OpenComment else if b == 46 then TextAfterPeriod else BadParens

-- where the pieces stop, and what stands there
record Stops (records : List (List ℕ)) (ps : List Piece) (why : StFault) : Type 0 where
  rest : Text
  has_pieces : HasPieces (joined records) ps rest
  stop : IsStop rest
  why_is : fault_at rest ≡ why

pairs_fault : (rest : Text) → BreaksPairs rest → fault_at rest ≡ BadParens
pairs_fault rest o = elim o.1 [ inl is ↦ ap fault_at is | inr is ↦ ap fault_at is.0 ]

stops : (records : List (List ℕ)) (ps : List Piece) (why : StFault) → BreaksOff records ps why → Stops records ps why
stops records ps NoPeriod b = record { rest = []; has_pieces = b; stop = stop_nil; why_is = refl }
stops records ps OpenComment b = record {
  rest = b.0;
  has_pieces = b.1;
  stop = stop_comment b.0 b.2;
  why_is = ap fault_at b.2.1;
}
stops records ps BadParens b = record {
  rest = b.0;
  has_pieces = b.1;
  stop = stop_pairs b.0 b.2;
  why_is = pairs_fault b.0 b.2;
}
stops records ps TextAfterPeriod b = record {
  rest = 46 ∷ b.0 ++ followed b.1;
  has_pieces = b.2.has_pieces;
  stop = stop_period (b.0 ++ followed b.1);
  why_is = refl;
}

-- Where a statement breaks off, and why, is determined.
pub breaks_only : (records : List (List ℕ)) (ps qs : List Piece) (why other : StFault) → BreaksOff records ps why
    → BreaksOff records qs other → (ps ≡ qs) × (why ≡ other)
breaks_only records ps qs why other b c =
    let s = stops records ps why b in
    let t = stops records qs other c in
    let same = pieces_only (joined records) ps qs s.rest t.rest s.has_pieces s.stop t.has_pieces t.stop in
    (same.0, sym s.why_is ∙ ap fault_at same.1 ∙ t.why_is)

-- The fault of a statement is determined.
pub st_fault_only : (records : List (List ℕ)) (why other : StFault) → IsStFault records why → IsStFault records other
    → why ≡ other
st_fault_only records why other f g = (breaks_only records f.0 g.0 why other f.1 g.1).1
