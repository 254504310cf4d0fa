-- It can't be refuted that each command file is of commands or has a fault.
use Rattle.std.proofs.Common.{◌≡◌, ◌≢◌, ◌⊎◌, ◌≤◌, ◌<◌, ◌+◌, ◌-◌, inl, inr, ℕ, zero, suc, Bool, true, false, List, []}
use Rattle.std.proofs.Common.{◌∷◌, ◌++◌, length, refl, sym, ◌∙◌, ap, subst, arith, length-append, true≢false}
use Rattle.terms.specs.declared.codes.CommandWord.{CommandWord}
use Rattle.terms.specs.declared.codes.CommandCode.{CommandCode}
use Rattle.terms.specs.declared.codes.CommandCode.TheVariants.{UnknownCommand, BadCommandOperand, OperandTwice}
use Rattle.terms.specs.declared.codes.CommandCode.TheVariants.{NoSingleList}
use Rattle.terms.specs.declared.codes.CommandCode.TheVariants.{BadCommandForm}
use Rattle.terms.specs.Types.{Text, Command}
use Rattle.terms.specs.Records.{rec_fault_record}
use Rattle.terms.specs.Statement.{Piece, Blank, TakesPiece, HasPieces, is_solid, solid}
use Rattle.terms.specs.Statement.{followed, joined, IsPlace, Ends, IsIdle, StFault, NoPeriod, OpenComment}
use Rattle.terms.specs.Statement.{BadParens, TextAfterPeriod, BreaksOff}
use Rattle.terms.specs.CommandCuts.{BeginsNoGap, BeginsBehind, TakesCommand}
use Rattle.terms.specs.CommandForms.{IsCommand}
use Rattle.terms.specs.Commands.{CntlFault, BeginsWithCommands, IsCommandFile, has_double, is_unchosen, BeginsWith}
use Rattle.terms.specs.Commands.{IsCommandFault, IsNextFault, IsCommandFileFault}
use Rattle.terms.proofs.Lengths.{piece_shorter}
use Rattle.terms.proofs.Pieces.{piece_only, no_piece, stop_nil, stop_period, stop_comment, stop_pairs, pieces_append}
use Rattle.terms.proofs.Pieces.{IsStop}
use Rattle.machine_laws.specs.Answers.{IsRead}
use Rattle.machine_laws.proofs.CutUp.{records_read, Stuck, AtEnd, AtPeriod, AtComment, AtPairs, goes_or_stuck, cut_up}
use Rattle.machine_laws.proofs.CutUp.{pieces_before, StandsAt, stands_at, ends_at}

-- ---- gaps

stuck_stops : (text : Text) → Stuck text → IsStop text
stuck_stops text (AtEnd is) = subst IsStop (sym is) stop_nil
stuck_stops text (AtPeriod rest is) = subst IsStop (sym is) (stop_period rest)
stuck_stops text (AtComment opens) = stop_comment text opens
stuck_stops text (AtPairs breaks) = stop_pairs text breaks

-- the gap that comes first, and what follows it
record CutGap (text : Text) : Type 0 where
  gap : List Piece
  rest : Text
  has_pieces : HasPieces text gap rest
  is_gap : solid gap ≡ []
  no_gap : BeginsNoGap rest

uncut : (text : Text) → BeginsNoGap text → CutGap text
uncut text no_gap = record { gap = []; rest = text; has_pieces = refl; is_gap = refl; no_gap = no_gap }

cut_more : (text : Text) (p : Piece) (after : Text) → TakesPiece text p after → (b : Bool) → is_solid p ≡ b
    → CutGap after → CutGap text
cut_more text p after t true one later =
    uncut text (λ q other u. ap is_solid (sym (piece_only text p q after other t u).0) ∙ one)
cut_more text p after t false one later = record {
  gap = p ∷ later.gap;
  rest = later.rest;
  has_pieces = (after, t, later.has_pieces);
  is_gap = rw one later.is_gap;
  no_gap = later.no_gap;
}

cut_gap : (n : ℕ) (text : Text) → length text ≤ n → CutGap text
cut_gap zero [] short = uncut [] (λ p after t. absurd (no_piece [] p after stop_nil t))
cut_gap zero (b ∷ bs) short = absurd (omega (arith, short))
cut_gap (suc n) text short = elim (goes_or_stuck text) [
  | inr stuck ↦ uncut text (λ p after t. absurd (no_piece text p after (stuck_stops text stuck) t))
  | inl goes ↦ cut_more text goes.0 goes.1 goes.2 (is_solid goes.0) refl
      (cut_gap n goes.1 (omega (arith, piece_shorter text goes.0 goes.1 goes.2, short)))
]

-- ---- one command

-- a command, and fewer records behind it
record GoodCommand (n : ℕ) (records : List (List ℕ)) : Type 0 where
  c : Command
  pieces : List Piece
  number : ℕ
  next : ℕ
  after : List (List ℕ)
  takes : TakesCommand n records pieces number next after
  is : IsCommand pieces c
  shorter : length after < length records

abbrev NextRead : ℕ → List (List ℕ) → Type 0
NextRead n records = IsIdle (joined records) ⊎ (((fault : CntlFault) × IsNextFault n records fault)
    ⊎ GoodCommand n records)

command_judged : (pieces : List Piece) → ((c : Command) → ¬ IsCommand pieces c)
    → ((code : CommandCode) → ¬ IsCommandFault pieces code) → ⊥
command_judged pieces no_command no_fault = no_fault UnknownCommand (λ w rest begins.
    by w rest begins (has_double w rest) (is_unchosen w rest) refl refl)
  where
    by : (w : CommandWord) (rest : List Piece) → BeginsWith pieces w rest → (d u : Bool) → has_double w rest ≡ d
        → is_unchosen w rest ≡ u → ⊥
    by w rest begins true u double unchosen = no_fault OperandTwice (w, rest, begins, double)
    by w rest begins false true double unchosen = no_fault NoSingleList (w, rest, begins, double, unchosen)
    by w rest begins false false double unchosen = no_fault BadCommandOperand
        (w, rest, begins, double, unchosen, no_command)

module _ (n : ℕ) (records : List (List ℕ)) (none : ¬ NextRead n records) (gap : List Piece) (number : ℕ)
    (begins : BeginsBehind n records gap number) where
  abbrev at_fault : StFault → List Piece → Type 0
  at_fault why own = BreaksOff records (gap ++ own) why

  cut_fault : (why : StFault) (own : List Piece) → at_fault why own → ⊥
  cut_fault why own breaks = none (inr (inl (
    record { number = number; code = BadCommandForm },
    inl (refl, why, record { gap = gap; own = own; begins = begins; breaks_off = breaks }),
  )))

  fewer : (ps : List Piece) (tail : Text) (inline : List (List ℕ)) → Ends records ps tail inline
      → length inline < length records
  fewer ps tail inline ends =
      omega (
        arith,
        ap length ends.place.records_are,
        length-append ends.before (ends.place.at ∷ inline),
      )

  ended : (own : List Piece) (tail : Text) (inline : List (List ℕ)) → Ends records (gap ++ own) tail inline → ⊥
  ended own tail inline ends = cut_fault TextAfterPeriod own (tail, inline, ends, idle)
    where
      idle : ¬ IsIdle tail
      idle is =
          let few = fewer (gap ++ own) tail inline ends in
          let m : ℕ = n + length records - length inline in
          let takes : TakesCommand n records (solid own) number m inline = record {
            gap = gap;
            own = own;
            tail = tail;
            begins = begins;
            ends = ends;
            idle = is;
            pieces_are = refl;
            next_is = omega (arith, few);
          } in
          command_judged (solid own) (λ c good. none (inr (inr (record {
            c = c;
            pieces = solid own;
            number = number;
            next = m;
            after = inline;
            takes = takes;
            is = good;
            shorter = few;
          })))) (λ code bad. none (inr (inl (
            record { number = number; code = code },
            inr (solid own, m, inline, takes, bad),
          ))))

  judged : (own : List Piece) (stop : Text) → HasPieces (joined records) (gap ++ own) stop → Stuck stop → ⊥
  judged own stop has (AtEnd is) = cut_fault NoPeriod own (subst (HasPieces (joined records) (gap ++ own)) is has)
  judged own stop has (AtComment opens) = cut_fault OpenComment own (stop, has, opens)
  judged own stop has (AtPairs breaks) = cut_fault BadParens own (stop, has, breaks)
  judged own stop has (AtPeriod after is) =
      let e = ends_at records (gap ++ own) after (subst (HasPieces (joined records) (gap ++ own)) is has) in
      ended own e.0 e.1 e.2

-- what begins behind the gap
begins_there : (n : ℕ) (records : List (List ℕ)) (gap : List Piece) (y : ℕ) (ys tail : Text)
    (before later : List (List ℕ)) → HasPieces (joined records) gap (y ∷ ys) → solid gap ≡ []
    → BeginsNoGap (y ∷ ys) → IsPlace records before (y ∷ tail) later → ys ≡ tail ++ followed later
    → BeginsBehind n records gap (n + length before)
begins_there n records gap y ys tail before later has is_gap no_gap place is = record {
  before = before;
  line = y ∷ tail;
  later = later;
  place = place;
  is_gap = is_gap;
  has_pieces = subst (λ t. HasPieces (joined records) gap (y ∷ t)) is has;
  some = omega arith;
  no_gap = subst (λ t. BeginsNoGap (y ∷ t)) is no_gap;
  number_is = refl;
}

next_read : (n : ℕ) (records : List (List ℕ)) → ¬ ¬ NextRead n records
next_read n records none =
    let cut = cut_gap (length (joined records)) (joined records) (omega arith) in
    by cut.gap cut.rest cut.has_pieces cut.is_gap cut.no_gap
  where
    placed : (gap : List Piece) (y : ℕ) (ys : Text) → HasPieces (joined records) gap (y ∷ ys) → solid gap ≡ []
        → BeginsNoGap (y ∷ ys) → StandsAt records y ys → ⊥
    placed gap y ys has is_gap no_gap at =
        let own = cut_up (length (y ∷ ys)) (y ∷ ys) (omega arith) in
        let begins = begins_there n records gap y ys at.tail at.before at.later has is_gap no_gap at.place at.rest_is in
        judged n records none gap (n + length at.before) begins own.0 own.1
        (pieces_append (joined records) (y ∷ ys) own.1 gap own.0 has own.2) own.3

    by : (gap : List Piece) (rest : Text) → HasPieces (joined records) gap rest → solid gap ≡ [] → BeginsNoGap rest → ⊥
    by gap [] has is_gap no_gap = none (inl (gap, has, is_gap))
    by gap (y ∷ ys) has is_gap no_gap =
        let dark : y ≢ 32 = λ same. true≢false (sym (no_gap Blank ys (y, refl, rw same refl))) in
        let x = pieces_before (joined records) gap (y ∷ ys) has in
        placed gap y ys has is_gap no_gap (stands_at records x.0 y ys dark x.1)

-- ---- the file

abbrev Begins : ℕ → List (List ℕ) → Type 0
Begins n records =
    ((cs : List Command) × (m : ℕ) × (rest : List (List ℕ)) × BeginsWithCommands n records cs m rest
    × IsIdle (joined rest))
    ⊎ ((cs : List Command) × (m : ℕ) × (rest : List (List ℕ)) × (fault : CntlFault)
    × BeginsWithCommands n records cs m rest × IsNextFault m rest fault)

-- a good command, and then what its rest begins with
with_command : (n : ℕ) (records : List (List ℕ)) → (good : GoodCommand n records) → Begins good.next good.after
    → Begins n records
with_command n records good (inl all) =
    inl (
      good.c ∷ all.0,
      all.1,
      all.2,
      (good.pieces, good.number, good.next, good.after, good.takes, good.is, all.3),
      all.4,
    )
with_command n records good (inr at) = inr (
  good.c ∷ at.0,
  at.1,
  at.2,
  at.3,
  (good.pieces, good.number, good.next, good.after, good.takes, good.is, at.4),
  at.5,
)

begins_or_fault : (k n : ℕ) (records : List (List ℕ)) → length records < k → ¬ ¬ Begins n records
begins_or_fault zero n records short none = omega (arith, short)
begins_or_fault (suc k) n records short none = next_read n records (λ read. elim read [
  | inl idle ↦ none (inl ([], n, records, (refl, refl), idle))
  | inr other ↦ elim other [
    | inl bad ↦ none (inr ([], n, records, bad.0, (refl, refl), bad.1))
    | inr good ↦ begins_or_fault k good.next good.after (omega (arith, short, good.shorter))
        (λ more. none (with_command n records good more))
  ]
])

-- A command file is of commands or has a fault.
pub command_file_read : (bytes : List ℕ) → ¬ ¬ IsRead (IsCommandFile bytes) (IsCommandFileFault bytes)
command_file_read bytes none = elim (records_read bytes) [
  | inr bad ↦ none (inr (
    record { number = rec_fault_record bad.0; code = BadCommandForm },
    inl (refl, bad.0, bad.1, refl),
  ))
  | inl good ↦ begins_or_fault (length good.0 + 1) 1 good.0 (omega arith) (λ begins. elim begins [
    | inl all ↦ none (inl (all.0, (good.0, all.2, all.1, good.1, all.3, all.4)))
    | inr at ↦ none (inr (at.3, inr (good.0, at.2, at.0, at.1, good.1, at.4, at.5)))
  ])
]
