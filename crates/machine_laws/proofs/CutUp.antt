-- Each file is of records or has a fault of them, and each text can be cut into pieces up to where none begins.
use Rattle.std.proofs.Common.{◌≡◌, ◌≢◌, ◌⊎◌, ◌≤◌, ◌<◌, ◌+◌, ◌*◌, ◌/◌, ◌%◌, inl, inr, ℕ, zero, suc, Bool, true, false}
use Rattle.std.proofs.Common.{List, [], ◌∷◌, ◌++◌, length, take, drop, get_or, Option, None, Some, All, IsTrue, refl}
use Rattle.std.proofs.Common.{sym}
use Rattle.std.proofs.Common.{◌∙◌, ap, subst, arith, append_assoc}
use Rattle.std.specs.Prelude.{◌==◌, ◌&&◌, slice_index, if◌then◌else◌}
use Rattle.std.specs.List.{prefix_len}
use Rattle.std.proofs.lemmas.Bool.{cases_eq, eqb-true, and_parts}
use Rattle.std.proofs.lemmas.List.{take-append-drop, length-drop}
use Rattle.std.proofs.lemmas.List.Elements.{All-cons, All-nil}
use Rattle.terms.specs.Types.{Text}
use Rattle.terms.specs.Forms.{is_word_byte}
use Rattle.terms.specs.Records.{IsPrintable, HasRecords, front, RecFault, ShortRecord, BadByte, IsRecFault}
use Rattle.terms.specs.Groups.{starts_outside, Group, TakesGroup}
use Rattle.terms.specs.Statement.{Piece, TheWord, TheList, Blank, Comment, Stray, is_blank, is_stray, behind_close}
use Rattle.terms.specs.Statement.{behind_list, BeginsNoWord, TakesPiece, HasPieces, followed, joined, solid}
use Rattle.terms.specs.Statement.{IsPlace, Ends, IsStatement, StFault, NoPeriod, OpenComment, BadParens}
use Rattle.terms.specs.Statement.{TextAfterPeriod}
use Rattle.terms.specs.Statement.{OpensComment}
use Rattle.terms.specs.Statement.{BreaksPairs, IsStFault}
use Rattle.terms.proofs.Closings.{list_before}
use Rattle.terms.proofs.Lengths.{piece_shorter}
use Rattle.rec80.proofs.Chunks.{flat_chunks, whole_file, bad_byte}
use Rattle.rec80.proofs.GroupCuts.{is_later, first_group}
use Rattle.machine_laws.proofs.RunsAnswered.{Decided, decided_le}

-- ---- records

printable_or_not : (b : ℕ) → Decided (IsPrintable b)
printable_or_not b = elim (decided_le 32 b) [
  | inl above ↦ elim (decided_le b 126) [
    | inl below ↦ inl (above, below)
    | inr over ↦ inr (λ is. over is.1)
  ]
  | inr under ↦ inr (λ is. under is.0)
]

-- the first byte that no record may have
abbrev HasBad : List ℕ → Type 0
HasBad bytes = (i : ℕ) × (i < length bytes) × (¬ IsPrintable (get_or bytes i 0)) × All IsPrintable (take i bytes)

first_bad : (bytes : List ℕ) → All IsPrintable bytes ⊎ HasBad bytes
first_bad [] = inl (All-nil IsPrintable)
first_bad (b ∷ bs) = elim (printable_or_not b) [
  | inr bad ↦ inr (0, omega arith, bad, All-nil IsPrintable)
  | inl good ↦ elim (first_bad bs) [
    | inl all ↦ inl (All-cons IsPrintable b bs good all)
    | inr at ↦ inr (suc at.0, omega (arith, at.1), at.2, All-cons IsPrintable b (take at.0 bs) good at.3)
  ]
]

pub records_read : (bytes : List ℕ)
    → ((records : List (List ℕ)) × HasRecords bytes records) ⊎ ((fault : RecFault) × IsRecFault bytes fault)
records_read bytes = elim (first_bad (take (length bytes / 80 * 80) bytes)) [
  | inr at ↦ inr (
    BadByte (at.0 / 80 + 1) (at.0 % 80 + 1),
    bad_byte bytes (take (length bytes / 80 * 80) bytes) at.0 refl at.1 at.3 at.2,
  )
  | inl all ↦ elim (cases_eq (length bytes % 80) 0) [
    | inl whole ↦ inl (
      _,
      whole_file bytes whole
          (subst (All IsPrintable) (sym (flat_chunks (length bytes / 80) bytes (omega arith))) all),
    )
    | inr rest ↦ inr (ShortRecord (length bytes / 80 + 1), (rest, all, refl))
  ]
]

-- ---- pieces

-- no piece begins: the text ends, or a period comes, or an open comment, or bad parentheses
pub data Stuck (text : Text) : Type 0 where
  AtEnd : text ≡ [] → Stuck text
  AtPeriod : (rest : Text) → text ≡ 46 ∷ rest → Stuck text
  AtComment : OpensComment text → Stuck text
  AtPairs : BreaksPairs text → Stuck text

abbrev Goes : Text → Type 0
Goes text = (p : Piece) × (after : Text) × TakesPiece text p after

word_run : (text : Text) → (word after : Text) × (text ≡ word ++ after) × All (λ b. IsTrue (is_word_byte b)) word
    × BeginsNoWord after
word_run [] = ([], [], refl, All-nil (λ b. IsTrue (is_word_byte b)), tt)
word_run (b ∷ bs) = by (is_word_byte b) refl (word_run bs)
  where
    by : (w : Bool) → is_word_byte b ≡ w
        → ((word after : Text) × (bs ≡ word ++ after) × All (λ b. IsTrue (is_word_byte b)) word × BeginsNoWord after)
        → (word after : Text) × (b ∷ bs ≡ word ++ after) × All (λ b. IsTrue (is_word_byte b)) word × BeginsNoWord after
    by true is rest = (
      b ∷ rest.0,
      rest.1,
      ap (λ t. b ∷ t) rest.2,
      All-cons (λ b. IsTrue (is_word_byte b)) b rest.0 is rest.3,
      rest.4,
    )
    by false is rest = ([], b ∷ bs, refl, All-nil (λ b. IsTrue (is_word_byte b)), is)

word_goes : (b : ℕ) (bs : Text) → is_word_byte b ≡ true → Goes (b ∷ bs)
word_goes b bs is =
    let run = word_run bs in (
      TheWord (b ∷ run.0),
      run.1,
      (
        ap (λ t. b ∷ t) run.2,
        (omega arith, All-cons (λ b. IsTrue (is_word_byte b)) b run.0 is run.3),
        run.4,
      ),
    )

list_goes : (b : ℕ) (bs : Text) → b ≡ 40 → (found : Option Text) → behind_list false bs ≡ found
    → Goes (b ∷ bs) ⊎ Stuck (b ∷ bs)
list_goes b bs is None at = inr (AtPairs (bs, inr (ap (λ c. c ∷ bs) is, at)))
list_goes b bs is (Some after) at =
    let list = list_before false bs after at in
    inl (
      TheList list.0,
      after,
      (
        ap (λ c. c ∷ bs) is ∙ ap (λ t. 40 ∷ t) list.1,
        subst (λ t. behind_list false t ≡ Some after) list.1 at,
      ),
    )

comment_goes : (b : ℕ) (bs : Text) → b ≡ 47 → slice_index bs 0 ≡ 42 → Goes (b ∷ bs) ⊎ Stuck (b ∷ bs)
comment_goes b [] is star = absurd (cc star)
comment_goes b (c ∷ cs) is star = by (behind_close cs) refl
  where
    text_is : b ∷ c ∷ cs ≡ 47 ∷ 42 ∷ cs
    text_is = ap (λ x. x ∷ c ∷ cs) is ∙ ap (λ x. 47 ∷ x ∷ cs) star

    by : (found : Option Text) → behind_close cs ≡ found → Goes (b ∷ c ∷ cs) ⊎ Stuck (b ∷ c ∷ cs)
    by None at = inr (AtComment (cs, text_is, at))
    by (Some after) at = inl (Comment, after, (cs, text_is, at))

no_comment : (b : ℕ) (bs : Text) → (b == 47 && slice_index bs 0 == 42) ≡ false → b ≡ 47 → slice_index bs 0 ≢ 42
no_comment b bs none is star =
    let opens : (b == 47 && slice_index bs 0 == 42) ≡ true = rw (is, star) refl in
    cc (opens, none)

chosen : (b : ℕ) (bs : Text) (word blank list close period comment : Bool) → is_word_byte b ≡ word
    → is_blank b ≡ blank → (b == 40) ≡ list → (b == 41) ≡ close → (b == 46) ≡ period
    → (b == 47 && slice_index bs 0 == 42) ≡ comment → Goes (b ∷ bs) ⊎ Stuck (b ∷ bs)
chosen b bs true blank list close period comment w k l c p o = inl (word_goes b bs w)
chosen b bs false true list close period comment w k l c p o = inl (Blank, bs, (b, refl, k))
chosen b bs false false true close period comment w k l c p o =
    list_goes b bs (eqb-true b 40 l) (behind_list false bs) refl
chosen b bs false false false true period comment w k l c p o =
    inr (AtPairs (bs, inl (ap (λ x. x ∷ bs) (eqb-true b 41 c))))
chosen b bs false false false false true comment w k l c p o =
    inr (AtPeriod bs (ap (λ x. x ∷ bs) (eqb-true b 46 p)))
chosen b bs false false false false false true w k l c p o =
    let parts = and_parts (b == 47) (slice_index bs 0 == 42) o in
    comment_goes b bs (eqb-true b 47 parts.0) (eqb-true (slice_index bs 0) 42 parts.1)
chosen b bs false false false false false false w k l c p o =
    let stray : is_stray b ≡ true = rw (w, k, l, c, p) refl in
    inl (Stray b, bs, (refl, stray, no_comment b bs o))

pub goes_or_stuck : (text : Text) → ((p : Piece) × (after : Text) × TakesPiece text p after) ⊎ Stuck text
goes_or_stuck [] = inr (AtEnd refl)
goes_or_stuck (b ∷ bs) =
    chosen b bs (is_word_byte b) (is_blank b) (b == 40) (b == 41) (b == 46) (b == 47 && slice_index bs 0 == 42) refl
    refl refl refl refl refl

pub cut_up : (n : ℕ) (text : Text) → length text ≤ n → (ps : List Piece) × (rest : Text) × HasPieces text ps rest
    × Stuck rest
cut_up zero [] short = ([], [], refl, AtEnd refl)
cut_up zero (b ∷ bs) short = absurd (omega (arith, short))
cut_up (suc n) text short = elim (goes_or_stuck text) [
  | inr stuck ↦ ([], text, refl, stuck)
  | inl goes ↦
      let rest = cut_up n goes.1 (omega (arith, piece_shorter text goes.0 goes.1 goes.2, short)) in
      (goes.0 ∷ rest.0, rest.1, (goes.1, goes.2, rest.2), rest.3)
]

-- ---- places

close_before : (text after : Text) → behind_close text ≡ Some after → (x : Text) × (text ≡ x ++ after)
close_before [] after at = absurd (cc at)
close_before (b ∷ bs) after at = by (b == 42 && slice_index bs 0 == 47) refl (close_before bs after)
  where
    by : (c : Bool) → (b == 42 && slice_index bs 0 == 47) ≡ c
        → (behind_close bs ≡ Some after → (x : Text) × (bs ≡ x ++ after)) → (x : Text) × (b ∷ bs ≡ x ++ after)
    by true is later =
        let same : Some (drop 1 bs) ≡ Some after =
        subst (λ c. (if c then Some (drop 1 bs) else behind_close bs) ≡ Some after) is at in
        let rest : drop 1 bs ≡ after = cc same in
        (b ∷ take 1 bs, ap (λ t. b ∷ t) (sym (take-append-drop 1 bs) ∙ ap (λ t. take 1 bs ++ t) rest))
    by false is later =
        let rest = later (subst (λ c. (if c then Some (drop 1 bs) else behind_close bs) ≡ Some after) is at) in
        (b ∷ rest.0, ap (λ t. b ∷ t) rest.1)

piece_before : (text : Text) (p : Piece) (after : Text) → TakesPiece text p after → (x : Text) × (text ≡ x ++ after)
piece_before text (TheWord word) after t = (word, t.0)
piece_before text (TheList list) after t =
    (40 ∷ list ++ 41 ∷ [], t.0 ∙ ap (λ x. 40 ∷ x) (sym (append_assoc list (41 ∷ []) after)))
piece_before text Blank after t = (t.0 ∷ [], t.1)
piece_before text Comment after t =
    let inside = close_before t.0 after t.2 in
    (47 ∷ 42 ∷ inside.0, t.1 ∙ ap (λ x. 47 ∷ 42 ∷ x) inside.1)
piece_before text (Stray b) after t = (b ∷ [], t.0)

pub pieces_before : (text : Text) (ps : List Piece) (rest : Text) → HasPieces text ps rest
    → (x : Text) × (text ≡ x ++ rest)
pieces_before text [] rest h = ([], h)
pieces_before text (p ∷ ps) rest (after, takes, more) =
    let first = piece_before text p after takes in
    let behind = pieces_before after ps rest more in (
      first.0 ++ behind.0,
      first.1 ∙ ap (λ t. first.0 ++ t) behind.1 ∙ sym (append_assoc first.0 behind.0 rest),
    )

-- where the second of two parts begins in a list of two other parts
splits : (a b x ys : Text) (y : ℕ) → a ++ b ≡ x ++ y ∷ ys → ((t : Text) × (a ≡ x ++ y ∷ t) × (ys ≡ t ++ b))
    ⊎ ((t : Text) × (b ≡ t ++ y ∷ ys))
splits [] b x ys y e = inr (x, e)
splits (c ∷ a) b [] ys y e =
    let first : c ≡ y = cc e in
    let rest : a ++ b ≡ ys = cc e in
    inl (a, ap (λ v. v ∷ a) first, sym rest)
splits (c ∷ a) b (d ∷ x) ys y e =
    let first : c ≡ d = cc e in
    let rest : a ++ b ≡ x ++ y ∷ ys = cc e in
    elim (splits a b x ys y rest) [
      | inl here ↦ inl (here.0, ap (λ t. c ∷ t) here.1 ∙ ap (λ v. v ∷ x ++ y ∷ here.0) first, here.2)
      | inr there ↦ inr there
    ]

-- what stands behind a place in the records
pub record StandsAt (records : List (List ℕ)) (y : ℕ) (rest : Text) : Type 0 where
  pub before : List (List ℕ)
  pub tail : Text
  pub later : List (List ℕ)
  pub place : IsPlace records before (y ∷ tail) later
  pub rest_is : rest ≡ tail ++ followed later

-- Each character but a blank stands in some record.
pub stands_at : (records : List (List ℕ)) (x : Text) (y : ℕ) (rest : Text) → y ≢ 32 → joined records ≡ x ++ y ∷ rest
    → StandsAt records y rest
stands_at [] [] y rest dark e = absurd (cc e)
stands_at [] (c ∷ x) y rest dark e = absurd (cc e)
stands_at (r ∷ rs) x y rest dark e =
    by (splits (front r) (followed rs) x rest y e) (λ x more. stands_at rs x y rest dark more)
  where
    behind : (rs : List (List ℕ)) (t : Text) → followed rs ≡ t ++ y ∷ rest
        → ((x : Text) → joined rs ≡ x ++ y ∷ rest → StandsAt rs y rest) → StandsAt rs y rest
    behind [] [] is later = absurd (cc is)
    behind [] (c ∷ t) is later = absurd (cc is)
    behind (q ∷ qs) [] is later =
        let blank : 32 ≡ y = cc is in
        absurd (dark (sym blank))
    behind (q ∷ qs) (c ∷ t) is later =
        let more : joined (q ∷ qs) ≡ t ++ y ∷ rest = cc is in
        later t more

    by : ((t : Text) × (front r ≡ x ++ y ∷ t) × (rest ≡ t ++ followed rs))
        ⊎ ((t : Text) × (followed rs ≡ t ++ y ∷ rest))
        → ((x : Text) → joined rs ≡ x ++ y ∷ rest → StandsAt rs y rest) → StandsAt (r ∷ rs) y rest
    by (inl (t, at, is)) again = record {
      before = [];
      tail = t;
      later = rs;
      place = record { at = r; head = x; records_are = refl; line_is = at };
      rest_is = is;
    }
    by (inr (t, is)) again =
        let at = behind rs t is again in
        record {
          before = r ∷ at.before;
          tail = at.tail;
          later = at.later;
          place = record {
            at = at.place.at;
            head = at.place.head;
            records_are = ap (λ l. r ∷ l) at.place.records_are;
            line_is = at.place.line_is;
          };
          rest_is = at.rest_is;
        }

-- ---- statements

-- where pieces lead to a period they end
abbrev EndsSomewhere : List (List ℕ) → List Piece → Type 0
EndsSomewhere records ps = (tail : Text) × (inline : List (List ℕ)) × Ends records ps tail inline

ends_there : (records : List (List ℕ)) (ps : List Piece) (rest tail : Text) (inline before : List (List ℕ))
    → HasPieces (joined records) ps (46 ∷ rest) → IsPlace records before (46 ∷ tail) inline
    → rest ≡ tail ++ followed inline → Ends records ps tail inline
ends_there records ps rest tail inline before has place is =
    record {
      before = before;
      place = place;
      has_pieces = subst (λ t. HasPieces (joined records) ps (46 ∷ t)) is has;
    }

ends_by : (records : List (List ℕ)) (ps : List Piece) (rest : Text) → HasPieces (joined records) ps (46 ∷ rest)
    → StandsAt records 46 rest → EndsSomewhere records ps
ends_by records ps rest has at =
    (at.tail, at.later, ends_there records ps rest at.tail at.later at.before has at.place at.rest_is)

pub ends_at : (records : List (List ℕ)) (ps : List Piece) (rest : Text) → HasPieces (joined records) ps (46 ∷ rest)
    → (tail : Text) × (inline : List (List ℕ)) × Ends records ps tail inline
ends_at records ps rest has =
    let x = pieces_before (joined records) ps (46 ∷ rest) has in
    ends_by records ps rest has (stands_at records x.0 46 rest (λ e. cc e) x.1)

abbrev pub StatementOrFault : List (List ℕ) → Type 0
StatementOrFault records =
    ((pieces : List Piece) × (inline : List (List ℕ)) × IsStatement records pieces inline)
    ⊎ ((why : StFault) × IsStFault records why)

-- It can't be refuted that records are a statement or have a fault of form.
pub statement_read : (records : List (List ℕ)) → ¬ ¬ StatementOrFault records
statement_read records none =
    let cut = cut_up (length (joined records)) (joined records) (omega arith) in
    by cut.0 cut.1 cut.2 cut.3
  where
    by : (ps : List Piece) (rest : Text) → HasPieces (joined records) ps rest → Stuck rest → ⊥
    by ps rest has (AtEnd is) = none (inr (NoPeriod, (ps, subst (HasPieces (joined records) ps) is has)))
    by ps rest has (AtComment opens) = none (inr (OpenComment, (ps, (rest, has, opens))))
    by ps rest has (AtPairs breaks) = none (inr (BadParens, (ps, (rest, has, breaks))))
    by ps rest has (AtPeriod after is) =
        let e = ends_at records ps after (subst (HasPieces (joined records) ps) is has) in
        none (inr (
          TextAfterPeriod,
          (
            ps,
            (
              e.0,
              e.1,
              e.2,
              λ idle. none (inl (
                solid ps,
                e.1,
                (ps, e.0, e.2, idle, refl),
              )),
            ),
          ),
        ))

-- ---- groups

-- Records that begin a statement begin with a group.
pub record FirstGroup (n : ℕ) (records : List (List ℕ)) : Type 0 where
  pub group : Group
  pub next : ℕ
  pub later : List (List ℕ)
  pub takes : TakesGroup n records group next later
  pub shorter : length later < length records

pub group_taken : (n : ℕ) (r : List ℕ) (rs : List (List ℕ)) → starts_outside (r ∷ rs) ≡ false → FirstGroup n (r ∷ rs)
group_taken n r rs starts =
    let k = prefix_len is_later rs in
    let first = first_group (r ∷ rs) (take (1 + k) (r ∷ rs)) (drop (1 + k) (r ∷ rs)) k starts (omega arith)
    refl refl refl
    in
    record {
      group = record { number = n; records = take (1 + k) (r ∷ rs) };
      next = n + length (take (1 + k) (r ∷ rs));
      later = drop (1 + k) (r ∷ rs);
      takes = record {
        records_are = first.cut;
        number_is = refl;
        is_group = first.group;
        next_is = refl;
        rest_starts = first.rest;
      };
      shorter = omega (arith, length-drop (1 + k) (r ∷ rs));
    }
