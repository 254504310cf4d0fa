-- A whole statement, from the place where its records begin.
use Rattle.std.proofs.Common.{◌≡◌, ℕ, List, [], ◌∷◌, ◌++◌, refl, subst}
use Rattle.terms.specs.Types.{Text}
use Rattle.terms.specs.Statement.{Piece, HasPieces, followed, joined, solid, HasSolid, IsIdle, Ends, IsStatement}
use Rattle.terms.specs.Statement.{IsStFault}
use Rattle.terms.proofs.Exact.{fault_no_statement}
use Rattle.rec80.specs.declared.cursor.Cursor.{Cursor}
use Rattle.rec80.specs.declared.error.StmtError.{StmtError}
use Rattle.rec80.specs.declared.error.StmtError.TheVariants.{NoPeriod, OpenComment, BadParens, TextAfterPeriod}
use Rattle.rec80.specs.Cursors.{rest_of, IsIn}
use Rattle.rec80.specs.Walks.{EndsFrom, BreaksFrom, st_fault}

-- what ends from the first place of the records ends in the records
ends : (records : List (List ℕ)) (from : Cursor) (ps : List Piece) (tail : Text) (inline : List (List ℕ))
    → rest_of from ≡ joined records → IsIn records from → EndsFrom from ps tail inline → Ends records ps tail inline
ends records from ps tail inline text_is h e =
    let at = e.place records h in
    record {
      before = at.0;
      place = at.1;
      has_pieces = subst (λ t. HasPieces t ps (46 ∷ tail ++ followed inline))
          text_is e.has_pieces;
    }

pub is_statement : (records : List (List ℕ)) (from : Cursor) (ps : List Piece) (tail : Text) (inline : List (List ℕ))
    → rest_of from ≡ joined records → IsIn records from → EndsFrom from ps tail inline → IsIdle tail
    → (pieces : List Piece) × IsStatement records pieces inline × HasSolid (rest_of from) pieces
is_statement records from ps tail inline text_is h e idle = (
  solid ps,
  (ps, tail, ends records from ps tail inline text_is h e, idle, refl),
  (ps, tail ++ followed inline, e.has_pieces, refl),
)

pub is_fault : (records : List (List ℕ)) (from : Cursor) (why : StmtError) → rest_of from ≡ joined records
    → IsIn records from → BreaksFrom from why → IsStFault records (st_fault why)
is_fault records from NoPeriod text_is h b = (b.0, subst (λ t. HasPieces t b.0 []) text_is b.1)
is_fault records from OpenComment text_is h b = (b.0, (b.1, subst (λ t. HasPieces t b.0 b.1) text_is b.2, b.3))
is_fault records from BadParens text_is h b = (b.0, (b.1, subst (λ t. HasPieces t b.0 b.1) text_is b.2, b.3))
is_fault records from TextAfterPeriod text_is h b = (b.0, (b.1, b.2, ends records from b.0 b.1 b.2 text_is h b.3, b.4))

pub no_statement : (records : List (List ℕ)) (from : Cursor) (why : StmtError) → rest_of from ≡ joined records
    → IsIn records from → BreaksFrom from why → (pieces : List Piece) (inline : List (List ℕ))
    → IsStatement records pieces inline → ⊥
no_statement records from why text_is h b pieces inline s = fault_no_statement records (st_fault why) pieces inline
    (is_fault records from why text_is h b) s
