-- Ways over pieces, one step more.
use Rattle.std.proofs.Common.{◌≡◌, ◌≤◌, ◌<◌, ℕ, List, [], ◌∷◌, ◌++◌, length, refl, ap}
use Rattle.std.proofs.Common.{subst, arith}
use Rattle.std.specs.Prelude.{slice_index}
use Rattle.std.proofs.lemmas.Bool.{false≢true}
use Rattle.terms.specs.Records.{front}
use Rattle.terms.specs.Types.{Text}
use Rattle.terms.specs.Statement.{Piece, Blank, TakesPiece, HasPieces, followed, IsIdle}
use Rattle.terms.specs.CommandCuts.{BeginsNoGap}
use Rattle.terms.proofs.Lengths.{piece_shorter, pieces_shorter}
use Rattle.terms.proofs.Pieces.{pieces_append, idle_ends}
use Rattle.rec80.specs.Pieces.{TakesGap}
use Rattle.rec80.specs.Walks.{SkipsGaps, Walks}

pub skips_none : (text : Text) → BeginsNoGap text → SkipsGaps text text
skips_none text no_gap = record { gap = []; has_pieces = refl; is_gap = refl; no_gap = no_gap }

pub skips_more : (text mid after : Text) → TakesGap text mid → SkipsGaps mid after → SkipsGaps text after
skips_more text mid after t s = record {
  gap = t.piece ∷ s.gap;
  has_pieces = (mid, t.takes, s.has_pieces);
  is_gap = rw t.is_gap s.is_gap;
  no_gap = s.no_gap;
}

pub gap_shorter : (text after : Text) → TakesGap text after → length after < length text
gap_shorter text after t = piece_shorter text t.piece after t.takes

pub walks_gaps : (text after : Text) → SkipsGaps text after → Walks text after
walks_gaps text after s = (s.gap, s.has_pieces)

pub walks_more : (text mid next after : Text) (p : Piece) → Walks text mid → TakesPiece mid p next
    → SkipsGaps next after → Walks text after
walks_more text mid next after p w t s = (
  w.0 ++ (p ∷ s.gap),
  pieces_append text mid after w.0 (p ∷ s.gap) w.1 (next, t, s.has_pieces),
)

pub walk_shorter : (mid next after : Text) (p : Piece) → TakesPiece mid p next → SkipsGaps next after
    → length after < length mid
walk_shorter mid next after p t s = omega (
  arith,
  piece_shorter mid p next t,
  pieces_shorter next s.gap after s.has_pieces,
)

pub gaps_shorter : (text after : Text) → SkipsGaps text after → length after ≤ length text
gaps_shorter text after s = pieces_shorter text s.gap after s.has_pieces

-- a piece behind gaps, and gaps behind it
pub behind_shorter : (text at next : Text) (p : Piece) → SkipsGaps text at → TakesPiece at p next
    → length next < length text
behind_shorter text at next p s t = omega (arith, gaps_shorter text at s, piece_shorter at p next t)

pub idle_text : (text after : Text) → SkipsGaps text after → after ≡ [] → IsIdle text
idle_text text after s none = (s.gap, subst (HasPieces text s.gap) none s.has_pieces, s.is_gap)

pub idle_after : (text after : Text) → SkipsGaps text after → IsIdle text → after ≡ []
idle_after text after s idle = idle_ends text s.gap after s.has_pieces s.no_gap idle

-- Where something other than a gap follows, it stands in the line.
pub some_line : (line : Text) (later : List (List ℕ)) → BeginsNoGap (line ++ followed later)
    → (line ++ followed later ≡ [] → ⊥) → 0 < length line
some_line [] [] no_gap more = absurd (more refl)
some_line [] (r ∷ rs) no_gap more = absurd (false≢true (no_gap Blank (front r ++ followed rs) (32, refl, refl)))
some_line (b ∷ line) later no_gap more = omega arith

-- what the period leaves in its line
pub period_line : (line after : Text) (later : List (List ℕ)) → line ++ followed later ≡ 46 ∷ after
    → (tail : Text) × (line ≡ 46 ∷ tail)
period_line [] after [] e = absurd (cc (e))
period_line [] after (r ∷ rs) e =
    let first : slice_index (32 ∷ (front r ++ followed rs)) 0 ≡ slice_index (46 ∷ after) 0 = ap (λ l. slice_index l 0) e
    in
    absurd (omega (arith, first))
period_line (b ∷ line) after later e = (line, cc (e))
