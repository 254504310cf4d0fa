-- Where a command begins, the command, and the fault of its form are determined, and no records have two of these.
use Rattle.std.proofs.Common.{◌≡◌, ◌+◌, ℕ, Bool, true, false, List, [], ◌∷◌, ◌++◌, length, refl, sym, ◌∙◌, ap, subst}
use Rattle.std.proofs.Common.{arith, length-append}
use Rattle.std.proofs.lemmas.List.{append_cancel_left}
use Rattle.terms.specs.Types.{Text}
use Rattle.terms.specs.Statement.{Piece, TakesPiece, HasPieces, is_solid, solid, joined, followed, IsIdle, StFault}
use Rattle.terms.specs.CommandCuts.{BeginsNoGap, BeginsBehind, TakesCommand, IsCutFault}
use Rattle.terms.proofs.Pieces.{piece_only, idle_ends}
use Rattle.terms.proofs.Exact.{place_only, ends_only, breaks_only, breaks_not_ends}

no_gap_piece : (p : Piece) (ps : List Piece) → is_solid p ≡ true → solid (p ∷ ps) ≡ [] → ⊥
no_gap_piece p ps one none =
    let kept : solid (p ∷ ps) ≡ p ∷ solid ps = rw one refl in
    cc (kept, none)

gap_rest : (p : Piece) (ps : List Piece) → solid (p ∷ ps) ≡ [] → is_solid p ≡ false → solid ps ≡ []
gap_rest p ps none dark =
    let kept : solid (p ∷ ps) ≡ solid ps = rw dark refl in
    sym kept ∙ none

gap_first : (p : Piece) (ps : List Piece) (b : Bool) → is_solid p ≡ b → solid (p ∷ ps) ≡ [] → is_solid p ≡ false
gap_first p ps true is none = absurd (no_gap_piece p ps is none)
gap_first p ps false is none = is

-- All the gaps that a text begins with are determined.
gaps_only : (text : Text) (gap gap' : List Piece) (rest rest' : Text) → HasPieces text gap rest
    → HasPieces text gap' rest' → solid gap ≡ [] → solid gap' ≡ [] → BeginsNoGap rest → BeginsNoGap rest'
    → (gap ≡ gap') × (rest ≡ rest')
gaps_only text [] [] rest rest' h k none none' no_gap no_gap' = (refl, sym h ∙ k)
gaps_only text [] (q ∷ qs) rest rest' h k none none' no_gap no_gap' =
    absurd (no_gap_piece q qs (no_gap q k.0 (subst (λ t. TakesPiece t q k.0) h k.1)) none')
gaps_only text (p ∷ ps) [] rest rest' h k none none' no_gap no_gap' =
    absurd (no_gap_piece p ps (no_gap' p h.0 (subst (λ t. TakesPiece t p h.0) k h.1)) none)
gaps_only text (p ∷ ps) (q ∷ qs) rest rest' h k none none' no_gap no_gap' =
    let first = piece_only text p q h.0 k.0 h.1 k.1 in
    let more = gaps_only h.0 ps qs rest rest' h.2 (subst (λ t. HasPieces t qs rest') (sym first.1) k.2)
    (gap_rest p ps none (gap_first p ps (is_solid p) refl none))
    (gap_rest q qs none' (gap_first q qs (is_solid q) refl none')) no_gap no_gap' in
    (cc (first.0, more.0), more.1)

-- Where a command begins is determined.
pub begins_only : (n : ℕ) (records : List (List ℕ)) (gap gap' : List Piece) (number number' : ℕ)
    → BeginsBehind n records gap number → BeginsBehind n records gap' number' → (gap ≡ gap') × (number ≡ number')
begins_only n records gap gap' number number' b c =
    let gaps = gaps_only (joined records) gap gap' (b.line ++ followed b.later) (c.line ++ followed c.later)
    b.has_pieces c.has_pieces b.is_gap c.is_gap b.no_gap c.no_gap in
    let place = place_only b.before c.before b.place.at c.place.at b.place.head c.place.head b.line c.line b.later
    c.later (sym b.place.records_are ∙ c.place.records_are) b.place.line_is c.place.line_is gaps.1 in
    (gaps.0, b.number_is ∙ ap (λ (l : List (List ℕ)). n + length l) place.0 ∙ sym c.number_is)

-- The first command is determined, and so is what follows it.
pub command_only : (n : ℕ) (records : List (List ℕ)) (pieces pieces' : List Piece) (number number' m m' : ℕ)
    (rest rest' : List (List ℕ)) → TakesCommand n records pieces number m rest
    → TakesCommand n records pieces' number' m' rest' → (pieces ≡ pieces') × (number ≡ number') × (m ≡ m')
    × (rest ≡ rest')
command_only n records pieces pieces' number number' m m' rest rest' t u =
    let begins = begins_only n records t.gap u.gap number number' t.begins u.begins in
    let ends = ends_only records (t.gap ++ t.own) (u.gap ++ u.own) t.tail u.tail rest rest' t.ends u.ends in
    let own : t.own ≡ u.own = append_cancel_left u.gap t.own u.own (ap (λ g. g ++ t.own) (sym begins.0) ∙ ends.0) in (
      t.pieces_are ∙ ap solid own ∙ sym u.pieces_are,
      begins.1,
      omega (arith, t.next_is, u.next_is, ap length ends.2),
      ends.2,
    )

-- The first fault of a command's form is determined.
pub cut_fault_only : (n : ℕ) (records : List (List ℕ)) (number number' : ℕ) (why why' : StFault)
    → IsCutFault n records number why → IsCutFault n records number' why' → (number ≡ number') × (why ≡ why')
cut_fault_only n records number number' why why' f g = (
  (begins_only n records f.gap g.gap number number' f.begins g.begins).1,
  (breaks_only records (f.gap ++ f.own) (g.gap ++ g.own) why why' f.breaks_off g.breaks_off).1,
)

-- No records begin with a command and with one at fault.
pub cut_fault_no_command : (n : ℕ) (records : List (List ℕ)) (number number' : ℕ) (why : StFault) (pieces : List Piece)
    (m : ℕ) (rest : List (List ℕ)) → IsCutFault n records number why → TakesCommand n records pieces number' m rest → ⊥
cut_fault_no_command n records number number' why pieces m rest f t =
    breaks_not_ends records (f.gap ++ f.own) (t.gap ++ t.own) why t.tail rest f.breaks_off t.ends t.idle

-- Where a command begins, more than gaps follows.
pub begins_not_idle : (n : ℕ) (records : List (List ℕ)) (gap : List Piece) (number : ℕ)
    → BeginsBehind n records gap number → IsIdle (joined records) → ⊥
begins_not_idle n records gap number b idle =
    let ends = idle_ends (joined records) gap (b.line ++ followed b.later) b.has_pieces b.no_gap idle in
    omega (arith, b.some, ap length ends, length-append b.line (followed b.later))
