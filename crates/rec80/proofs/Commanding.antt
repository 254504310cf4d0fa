-- A command, from the place behind the gaps before it.
use Rattle.std.proofs.Common.{◌≡◌, ◌≤◌, ◌+◌, ◌-◌, ℕ, List, [], ◌∷◌, ◌++◌, length, refl, ap, subst, arith}
use Rattle.std.proofs.Common.{length-append}
use Rattle.terms.specs.Types.{Text}
use Rattle.terms.specs.Statement.{Piece, HasPieces, followed, joined, solid, HasSolid, IsIdle, IsPlace, Ends, BreaksOff}
use Rattle.terms.specs.CommandCuts.{BeginsBehind, TakesCommand, IsCutFault}
use Rattle.terms.proofs.Pieces.{pieces_append}
use Rattle.rec80.specs.declared.cursor.Cursor.{Cursor}
use Rattle.rec80.specs.declared.error.StmtError.{StmtError}
use Rattle.rec80.specs.declared.error.StmtError.TheVariants.{NoPeriod, OpenComment, BadParens, TextAfterPeriod}
use Rattle.rec80.specs.Cursors.{rest_of, IsIn, IsAhead}
use Rattle.rec80.specs.Walks.{SkipsGaps, EndsFrom, BreaksFrom, st_fault}
use Rattle.rec80.proofs.Walking.{some_line}

length_place : (records before : List (List ℕ)) (line : Text) (later : List (List ℕ))
    → IsPlace records before line later → length records ≡ length before + 1 + length later
length_place records before line later p = omega (arith, ap length p.records_are, length-append before (p.at ∷ later))

-- The record of the place is one of the records.
pub in_records : (records : List (List ℕ)) (first from : Cursor) → IsIn records first → IsAhead first from
    → length from.later.now + 1 ≤ length records
in_records records first from h ahead =
    let p = ahead.stays records h in
    omega (arith, length_place records p.0 from.line.now from.later.now p.1)

-- A command begins at the place behind the gaps.
pub record StandsBehind (records : List (List ℕ)) (first from : Cursor) : Type 0 where
  pub text_is : rest_of first ≡ joined records
  pub inside : IsIn records first
  pub skips : SkipsGaps (rest_of first) (rest_of from)
  pub ahead : IsAhead first from
  pub more : rest_of from ≡ [] → ⊥

begins : (n : ℕ) (records : List (List ℕ)) (first from : Cursor) → (s : StandsBehind records first from)
    → BeginsBehind n records s.skips.gap (n + (length records - length from.later.now - 1))
begins n records first from s =
    let p = s.ahead.stays records s.inside in
    record {
      before = p.0;
      line = from.line.now;
      later = from.later.now;
      place = p.1;
      is_gap = s.skips.is_gap;
      has_pieces = subst (λ t. HasPieces t s.skips.gap (rest_of from)) s.text_is s.skips.has_pieces;
      some = some_line from.line.now from.later.now s.skips.no_gap s.more;
      no_gap = s.skips.no_gap;
      number_is = omega (arith, length_place records p.0 from.line.now from.later.now p.1);
    }

behind_gap : (records : List (List ℕ)) (first from : Cursor) (ps : List Piece) (rest : Text)
    → (s : StandsBehind records first from) → HasPieces (rest_of from) ps rest
    → HasPieces (joined records) (s.skips.gap ++ ps) rest
behind_gap records first from ps rest s h =
    subst (λ t. HasPieces t (s.skips.gap ++ ps) rest) s.text_is
    (pieces_append (rest_of first) (rest_of from) rest s.skips.gap ps s.skips.has_pieces h)

ends : (records : List (List ℕ)) (first from : Cursor) (ps : List Piece) (tail : Text) (later : List (List ℕ))
    → (s : StandsBehind records first from) → EndsFrom from ps tail later → Ends records (s.skips.gap ++ ps) tail later
ends records first from ps tail later s e =
    let at = e.place records (s.ahead.stays records s.inside) in
    record {
      before = at.0;
      place = at.1;
      has_pieces = behind_gap records first from ps (46 ∷ tail ++ followed later) s
          e.has_pieces;
    }

pub later_within : (records : List (List ℕ)) (first from : Cursor) (ps : List Piece) (tail : Text)
    (later : List (List ℕ)) → StandsBehind records first from → EndsFrom from ps tail later
    → length later ≤ length records
later_within records first from ps tail later s e =
    let at = e.place records (s.ahead.stays records s.inside) in
    omega (arith, length_place records at.0 (46 ∷ tail) later at.1)

pub takes_command : (n : ℕ) (records : List (List ℕ)) (first from : Cursor) (ps : List Piece) (tail : Text)
    (later : List (List ℕ)) → StandsBehind records first from → EndsFrom from ps tail later → IsIdle tail
    → (pieces : List Piece) × TakesCommand n records pieces (n + (length records - length from.later.now - 1))
    (n + (length records - length later)) later × HasSolid (rest_of from) pieces
takes_command n records first from ps tail later s e idle = (
  solid ps,
  record {
    gap = s.skips.gap;
    own = ps;
    tail = tail;
    begins = begins n records first from s;
    ends = ends records first from ps tail later s e;
    idle = idle;
    pieces_are = refl;
    next_is = omega (arith, later_within records first from ps tail later s e);
  },
  (ps, tail ++ followed later, e.has_pieces, refl),
)

breaks_off : (records : List (List ℕ)) (first from : Cursor) (why : StmtError) → (s : StandsBehind records first from)
    → BreaksFrom from why → (own : List Piece) × BreaksOff records (s.skips.gap ++ own) (st_fault why)
breaks_off records first from NoPeriod s b = (b.0, behind_gap records first from b.0 [] s b.1)
breaks_off records first from OpenComment s b = (b.0, (b.1, behind_gap records first from b.0 b.1 s b.2, b.3))
breaks_off records first from BadParens s b = (b.0, (b.1, behind_gap records first from b.0 b.1 s b.2, b.3))
breaks_off records first from TextAfterPeriod s b = (b.0, (b.1, b.2, ends records first from b.0 b.1 b.2 s b.3, b.4))

pub cut_fault : (n : ℕ) (records : List (List ℕ)) (first from : Cursor) (why : StmtError)
    → StandsBehind records first from → BreaksFrom from why → IsCutFault n records
    (n + (length records - length from.later.now - 1)) (st_fault why)
cut_fault n records first from why s b =
    let off = breaks_off records first from why s b in
    record { gap = s.skips.gap; own = off.0; begins = begins n records first from s; breaks_off = off.1 }
