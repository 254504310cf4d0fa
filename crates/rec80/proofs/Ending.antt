-- Where a statement ends.
use Rattle.std.proofs.Common.{◌≡◌, ◌≤◌, List, ◌∷◌, ◌++◌, length, drop, sym, ◌∙◌, ap, subst, arith}
use Rattle.terms.specs.Types.{Text}
use Rattle.terms.specs.Statement.{Piece, HasPieces, followed, IsPlace}
use Rattle.rec80.specs.declared.cursor.Cursor.{Cursor}
use Rattle.rec80.specs.declared.piece.Stop.{Stop}
use Rattle.rec80.specs.declared.piece.Stop.TheVariants.{Period}
use Rattle.rec80.specs.Cursors.{rest_of, IsAhead}
use Rattle.rec80.specs.Pieces.{StopsAt}
use Rattle.rec80.specs.Walks.{Walks, EndsFrom}
use Rattle.rec80.proofs.Walking.{period_line}

at_period : (at : Cursor) (stop : Stop) → stop ≡ Period → StopsAt stop (rest_of at)
    → (tail : Text) × (at.line.now ≡ 46 ∷ tail)
at_period at stop is stops =
    let p = subst (λ s. StopsAt s (rest_of at)) is stops in
    period_line at.line.now p.0 at.later.now p.1

pub period_some : (at : Cursor) (stop : Stop) → stop ≡ Period → StopsAt stop (rest_of at) → 1 ≤ length at.line.now
period_some at stop is stops =
    let p = at_period at stop is stops in
    omega (arith, ap length p.1)

pub ends_from : (from at : Cursor) (stop : Stop) (tail : Text) → stop ≡ Period → StopsAt stop (rest_of at)
    → Walks (rest_of from) (rest_of at) → IsAhead from at → tail ≡ drop 1 at.line.now
    → (ps : List Piece) × EndsFrom from ps tail at.later.now
ends_from from at stop tail is stops w ahead tail_is =
    let p = at_period at stop is stops in
    let line_is : at.line.now ≡ 46 ∷ tail = p.1 ∙ ap (λ t. 46 ∷ t) (sym (tail_is ∙ ap (drop 1) p.1)) in (
      w.0,
      record {
        has_pieces = subst (λ l. HasPieces (rest_of from) w.0 (l ++ followed at.later.now)) line_is w.1;
        place = λ records h. let r = ahead.stays records h in (
          r.0,
          subst (λ l. IsPlace records r.0 l at.later.now) line_is r.1,
        );
      },
    )
