-- A word cut from a line.
use Rattle.std.specs.Prelude.{slice_index, IsTrue}
use Rattle.std.proofs.Common.{◌≡◌, ◌<◌, ◌≤◌, ◌+◌, ℕ, true, List, [], ◌∷◌, ◌++◌, length, take, drop, refl}
use Rattle.std.proofs.Common.{sym, ◌∙◌, ap, subst, append_assoc, arith, cond}
use Rattle.std.specs.List.{All, prefix_len}
use Rattle.std.proofs.lemmas.Bool.{false≢true}
use Rattle.std.proofs.lemmas.List.{take-append-drop, length-take-le}
use Rattle.terms.specs.Types.{Text}
use Rattle.terms.specs.Forms.{is_word_byte}
use Rattle.terms.specs.Statement.{followed, TakesPiece, TheWord, BeginsNoWord}
use Rattle.rec80.proofs.Cuts.{BeginsOutside, back_fails}
use Rattle.rec80.specs.declared.cursor.Cursor.{Cursor}
use Rattle.rec80.specs.Cursors.{IsAhead}
use Rattle.std.proofs.lemmas.List.Sums.{prefix_len-le-length}
use Rattle.terms.proofs.Searches.{prefix_passes}

no_word_behind : (line : Text) (later : List (List ℕ)) → BeginsOutside is_word_byte line
    → BeginsNoWord (line ++ followed later)
no_word_behind [] [] h = tt
no_word_behind [] (r ∷ rs) h = refl
no_word_behind (b ∷ line) later h = h

some_word : (line : Text) (later : List (List ℕ)) → is_word_byte (slice_index (line ++ followed later) 0) ≡ true
    → 0 < prefix_len is_word_byte line
some_word [] [] h = absurd (false≢true h)
some_word [] (r ∷ rs) h = absurd (false≢true h)
some_word (b ∷ line) later h =
    let one : prefix_len is_word_byte (b ∷ line) ≡ 1 + prefix_len is_word_byte line =
    ap (λ t. cond t (1 + prefix_len is_word_byte line) 0) h in
    omega (arith, one)

pub word_within : (line : Text) (n : ℕ) → n ≡ prefix_len is_word_byte line → n ≤ length line
word_within line n n_is = omega (arith, n_is, prefix_len-le-length is_word_byte line)

pub takes_word_piece : (line word line' : Text) (later : List (List ℕ)) (n : ℕ) → n ≡ prefix_len is_word_byte line
    → word ≡ take n line → line' ≡ drop n line → is_word_byte (slice_index (line ++ followed later) 0) ≡ true
    → TakesPiece (line ++ followed later) (TheWord word) (line' ++ followed later)
takes_word_piece line word line' later n n_is word_is line'_is first =
    let len = length-take-le n line (word_within line n n_is) in
    let some = some_word line later first in
    let cut : line ≡ word ++ line' = sym (take-append-drop n line) ∙ ap (λ w. w ++ drop n line) (sym word_is)
    ∙ ap (λ l. word ++ l) (sym line'_is) in
    let word_is' : take (prefix_len is_word_byte line) line ≡ word = ap (λ k. take k line) (sym n_is) ∙ sym word_is in
    let line_is' : drop (prefix_len is_word_byte line) line ≡ line' = ap (λ k. drop k line) (sym n_is) ∙ sym line'_is
    in (
      ap (λ l. l ++ followed later) cut ∙ append_assoc word line' (followed later),
      (
        omega (arith, ap length word_is, len, some, n_is),
        subst (λ w. All (λ b. IsTrue (is_word_byte b)) w) word_is'
            (prefix_passes is_word_byte line),
      ),
      no_word_behind line' later (subst (BeginsOutside is_word_byte) line_is' (back_fails is_word_byte line 0)),
    )

pub ahead_cut : (old new : Cursor) (n : ℕ) (word : Text) → word ≡ take n old.line.now
    → new.line.now ≡ drop n old.line.now → new.later.now ≡ old.later.now → IsAhead old new
ahead_cut old new n word word_is line_is same = record {
  stays = λ records h. (
    h.0,
    record {
      at = h.1.at;
      head = h.1.head ++ word;
      records_are = rw same h.1.records_are;
      line_is = h.1.line_is ∙ ap (λ l. h.1.head ++ l) (sym (take-append-drop n old.line.now)
          ∙ ap (λ w. w ++ drop n old.line.now) (sym word_is) ∙ ap (λ l. word ++ l) (sym line_is))
          ∙ sym (append_assoc h.1.head word new.line.now);
    },
  );
}
