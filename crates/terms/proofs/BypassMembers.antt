-- How often a name stands among the runs of a list of members, and the list of BYPASS among the words of a command.
use Rattle.std.proofs.Common.{◌≡◌, ◌<◌, ◌+◌, ℕ, Bool, true, false, IsTrue, List, [], ◌∷◌, ◌++◌, length, map}
use Rattle.std.proofs.Common.{Option, Some, None, refl, sym, ◌∙◌, ap, arith, cond, append_assoc, inl, inr}
use Rattle.std.specs.Prelude.{◌==◌, ◌||◌, All, not, if◌then◌else◌}
use Rattle.std.specs.List.{flat_map}
use Rattle.std.specs.Str.{bytes_eq}
use Rattle.std.proofs.lemmas.Bool.{true≢false, false_from_ne_true, or_parts, or_from, not-true, eqb-true}
use Rattle.std.proofs.lemmas.List.{append-nil}
use Rattle.std.proofs.lemmas.List.Elements.{All-head, All-tail}
use Rattle.terms.proofs.TextOrder.{other_text, same_back}
use Rattle.terms.specs.Types.{Text}
use Rattle.terms.specs.Forms.{AreBlanks, is_word_byte}
use Rattle.terms.specs.Statement.{Piece, BeginsNoWord}
use Rattle.terms.specs.Words.{Word, word_pieces, list_pieces, is_member_byte, is_inner_byte, Stops, TakesInner}
use Rattle.terms.specs.Words.{TakesMember, IsSeparator, TakesNext, HasMore, HasMembers}
use Rattle.terms.specs.Operands.{operand}
use Rattle.terms.specs.Commands.{runs_from}
use Rattle.terms.specs.Operands.{leading_list, list_behind}
use Rattle.terms.proofs.OperandWords.{count, one_if, count_cons}

other_byte : (b c : ℕ) → is_word_byte b ≡ true → is_word_byte c ≡ false → (b == c) ≡ false
other_byte b c yes' no' = false_from_ne_true (b == c)
    (λ same. true≢false (sym yes' ∙ ap is_word_byte (eqb-true b c same) ∙ no'))

-- a character of a word is one of a member
word_member : (b : ℕ) → is_word_byte b ≡ true → is_member_byte b ≡ true
word_member b h = ap not (or_from (b == 32 || b == 44 || b == 40) (b == 41)
    (or_from (b == 32 || b == 44) (b == 40)
    (or_from (b == 32) (b == 44) (other_byte b 32 h refl) (other_byte b 44 h refl)) (other_byte b 40 h refl))
    (other_byte b 41 h refl))

no_member : (text : Text) → Stops is_member_byte text → BeginsNoWord text
no_member [] stops = tt
no_member (b ∷ bs) stops = false_from_ne_true (is_word_byte b) (λ h. true≢false (sym (word_member b h) ∙ stops))

-- each character is one of a word
abbrev pub AreWordBytes : Text → Type 0
AreWordBytes text = All (λ b. IsTrue (is_word_byte b)) text

pub run_goes_on : (run : Text) (b : ℕ) (bs : Text) → is_word_byte b ≡ true
    → runs_from false run (b ∷ bs) ≡ runs_from false (run ++ b ∷ []) bs
run_goes_on run b bs h = ap (λ c. if c then runs_from false (run ++ b ∷ []) bs else run ∷ runs_from (b == 40) [] bs) h

pub run_stops : (run : Text) (b : ℕ) (bs : Text) → is_word_byte b ≡ false
    → runs_from false run (b ∷ bs) ≡ run ∷ runs_from (b == 40) [] bs
run_stops run b bs h = ap (λ c. if c then runs_from false (run ++ b ∷ []) bs else run ∷ runs_from (b == 40) [] bs) h

run_word : (word run after : Text) → AreWordBytes word
    → runs_from false run (word ++ after) ≡ runs_from false (run ++ word) after
run_word [] run after each = ap (λ r. runs_from false r after) (sym (append-nil run))
run_word (b ∷ word) run after each =
    run_goes_on run b (word ++ after) (All-head (λ b. IsTrue (is_word_byte b)) b word each)
    ∙ run_word word (run ++ b ∷ []) after (All-tail (λ b. IsTrue (is_word_byte b)) b word each)
    ∙ ap (λ r. runs_from false r after) (append_assoc run (b ∷ []) word)

-- an inner list has no run
inner_runs : (list after : Text) → All (λ b. is_inner_byte b ≡ true) list
    → runs_from true [] (list ++ 41 ∷ after) ≡ runs_from false [] after
inner_runs [] after each = refl
inner_runs (b ∷ list) after each =
    let inside = not-true (b == 40 || b == 41) (All-head (λ b. is_inner_byte b ≡ true) b list each) in
    ap (λ c. runs_from (not c) [] (list ++ 41 ∷ after)) (or_parts (b == 40) (b == 41) inside).1
    ∙ inner_runs list after (All-tail (λ b. is_inner_byte b ≡ true) b list each)

-- A name, which is not empty, among the runs.
module _ (name : Text) (some : 0 < length name) where
  abbrev pub among : Bool → Text → Text → ℕ
  among inner run text = count name (runs_from inner run text)

  none : one_if name [] ≡ 0
  none = ap (λ b. cond b 1 0) (other_text name [] (λ e. omega (arith, ap length e, some)))

  empty_first : (runs : List Text) → count name ([] ∷ runs) ≡ count name runs
  empty_first runs = omega (arith, count_cons name [] runs, none)

  -- where a run ends, it counts, and the next begins
  pub run_ends : (run text : Text) → BeginsNoWord text → among false run text ≡ one_if name run + among false [] text
  run_ends run [] stops = count_cons name run [] ∙ ap (λ n. one_if name run + n) (sym (empty_first []))
  run_ends run (b ∷ bs) stops =
      ap (count name) (run_stops run b bs stops) ∙ count_cons name run (runs_from (b == 40) [] bs)
      ∙ ap (λ n. one_if name run + n) (sym (empty_first (runs_from (b == 40) [] bs))
      ∙ sym (ap (count name) (run_stops [] b bs stops)))

  -- what stands outside and is no word character
  pub run_skips : (b : ℕ) (bs : Text) → is_word_byte b ≡ false
      → among false [] (b ∷ bs) ≡ among (b == 40) [] bs
  run_skips b bs stops = ap (count name) (run_stops [] b bs stops) ∙ empty_first (runs_from (b == 40) [] bs)

  skip_blanks : (gap text : Text) → AreBlanks gap → among false [] (gap ++ text) ≡ among false [] text
  skip_blanks [] text h = refl
  skip_blanks (b ∷ gap) text h =
      let blank = All-head (λ b. b ≡ 32) b gap h in
      run_skips b (gap ++ text) (ap is_word_byte blank)
      ∙ ap (λ c. among (c == 40) [] (gap ++ text)) blank
      ∙ skip_blanks gap text (All-tail (λ b. b ≡ 32) b gap h)

  skip_separator : (gap text : Text) → IsSeparator gap → among false [] (gap ++ text) ≡ among false [] text
  skip_separator gap text (inl h) = skip_blanks gap text h.1
  skip_separator gap text (inr k) =
      ap (λ g. among false [] (g ++ text)) k.2 ∙ ap (among false []) (append_assoc k.0 (44 ∷ k.1) text)
      ∙ skip_blanks k.0 (44 ∷ (k.1 ++ text)) k.3 ∙ run_skips 44 (k.1 ++ text) refl ∙ skip_blanks k.1 text k.4

  skip_inner : (text : Text) (list : Option Text) (after : Text) → TakesInner text list after
      → among false [] text ≡ among false [] after
  skip_inner text None after t = ap (among false []) t.0
  skip_inner text (Some list) after t =
      ap (among false []) t.3 ∙ skip_blanks t.0 (40 ∷ list ++ 41 ∷ after) t.1
      ∙ run_skips 40 (list ++ 41 ∷ after) refl ∙ ap (count name) (inner_runs list after t.2)

  member_counts : (text : Text) (m : Word) (after : Text) → AreWordBytes m.word → TakesMember text m after
      → among false [] text ≡ one_if name m.word + among false [] after
  member_counts text m after each t =
      ap (among false []) t.1.text_is ∙ ap (count name) (run_word m.word [] t.0 each)
      ∙ run_ends m.word t.0 (no_member t.0 t.1.ends)
      ∙ ap (λ n. one_if name m.word + n) (skip_inner t.0 m.list after t.2)

  next_counts : (first : Bool) (text : Text) (m : Word) (after : Text) → AreWordBytes m.word
      → TakesNext first text m after → among false [] text ≡ one_if name m.word + among false [] after
  next_counts true text m after each t =
      ap (among false []) t.2 ∙ skip_blanks t.0 t.1 t.3 ∙ member_counts t.1 m after each t.4
  next_counts false text m after each t =
      ap (among false []) t.2 ∙ skip_separator t.0 t.1 t.3 ∙ member_counts t.1 m after each t.4

  abbrev Each : List Word → Type 0
  Each ms = All (λ (m : Word). AreWordBytes m.word) ms

  more_count : (text : Text) (ms : List Word) → HasMore text ms → Each ms
      → among false [] text ≡ count name (map (λ m. m.word) ms)
  more_count text [] h each =
      ap (among false []) (sym (append-nil text)) ∙ skip_blanks text [] h ∙ empty_first []
  more_count text (m ∷ ms) h each =
      next_counts false text m h.0 (All-head (λ (m : Word). AreWordBytes m.word) m ms each) h.1
      ∙ ap (λ n. one_if name m.word + n) (more_count h.0 ms h.2
      (All-tail (λ (m : Word). AreWordBytes m.word) m ms each))
      ∙ sym (count_cons name m.word (map (λ (m : Word). m.word) ms))

  -- The runs of a list count as its members do, where these are words.
  pub members_count : (text : Text) (ms : List Word) → HasMembers text ms → Each ms
      → among false [] text ≡ count name (map (λ m. m.word) ms)
  members_count text [] h each = absurd h
  members_count text (m ∷ ms) h each =
      next_counts true text m h.0 (All-head (λ (m : Word). AreWordBytes m.word) m ms each) h.1
      ∙ ap (λ n. one_if name m.word + n) (more_count h.0 ms h.2
      (All-tail (λ (m : Word). AreWordBytes m.word) m ms each))
      ∙ sym (count_cons name m.word (map (λ (m : Word). m.word) ms))

-- the list of an operand
abbrev pub list_of : Option Word → Option Text
list_of None = None
list_of (Some w) = w.list

leads_none : (ws : List Word) → leading_list (flat_map word_pieces ws) ≡ None
leads_none [] = refl
leads_none (w ∷ ws) = refl

leads_own : (list : Option Text) (ws : List Word)
    → leading_list (list_pieces list ++ flat_map word_pieces ws) ≡ list
leads_own None ws = leads_none ws
leads_own (Some list) ws = refl

behind_own : (name : Text) (list : Option Text) (ps : List Piece)
    → list_behind name (list_pieces list ++ ps) ≡ list_behind name ps
behind_own name None ps = refl
behind_own name (Some list) ps = refl

-- The list behind the first word of a name is that of the operand.
pub behind_operand : (name : Text) (ws : List Word)
    → list_behind name (flat_map word_pieces ws) ≡ list_of (operand name ws)
behind_operand name [] = refl
behind_operand name (w ∷ ws) = at (behind_operand name ws) (bytes_eq name w.word) refl
  where
    ps : List Piece
    ps = list_pieces w.list ++ flat_map word_pieces ws

    at : list_behind name (flat_map word_pieces ws) ≡ list_of (operand name ws) → (b : Bool)
        → bytes_eq name w.word ≡ b → list_behind name (flat_map word_pieces (w ∷ ws)) ≡ list_of (operand name (w ∷ ws))
    at more true same =
        ap (λ b. if b then leading_list ps else list_behind name ps) same ∙ leads_own w.list ws
        ∙ sym (ap (λ b. list_of (cond b (Some w) (operand name ws))) (same_back w.word name ∙ same))
    at more false other =
        ap (λ b. if b then leading_list ps else list_behind name ps) other
        ∙ behind_own name w.list (flat_map word_pieces ws) ∙ more
        ∙ sym (ap (λ b. list_of (cond b (Some w) (operand name ws))) (same_back w.word name ∙ other))
