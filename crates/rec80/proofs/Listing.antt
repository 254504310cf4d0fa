-- Members of a list, read one by one.
use Rattle.std.specs.Prelude.{◌==◌, ◌||◌, not, All}
use Rattle.std.specs.List.{prefix_len}
use Rattle.std.proofs.Common.{◌≡◌, ◌≤◌, ◌<◌, ◌+◌, ℕ, Bool, true, false, List, [], ◌∷◌, ◌++◌, length, take, drop, Option}
use Rattle.std.proofs.Common.{Some, None, refl, sym, ◌∙◌, ap, subst, arith, append_assoc, append-nil, length-append}
use Rattle.std.proofs.Common.{inl, inr, zero, suc}
use Rattle.std.proofs.lemmas.Bool.{ne_eqb, false≢true}
use Rattle.std.proofs.lemmas.List.{take_at, take-append-drop, length-take-le}
use Rattle.std.proofs.lemmas.List.Elements.{All-nil, All-cons, All-push, All-head}
use Rattle.terms.specs.Types.{Text}
use Rattle.terms.specs.Forms.{AreBlanks}
use Rattle.terms.specs.Words.{Word, is_inner_byte, is_member_byte, Stops, TakesRun, TakesInner, BeginsInner, IsBefore}
use Rattle.terms.specs.Words.{TakesNext, HasMore}
use Rattle.terms.specs.Statement.{followed}
use Rattle.terms.proofs.Members.{cut_only, is_space, blanks_each, BeginsMember, run_begins, first_start, comma_start}
use Rattle.terms.proofs.Members.{no_comma, next_only, blanks_none, member_first, run_only}
use Rattle.rec80.proofs.Cuts.{BeginsOutside, back_fails}
use Rattle.rec80.specs.Lists.{SkipsBlanks, HasLeft}
use Rattle.std.proofs.lemmas.List.Sums.{prefix_len-le-length}
use Rattle.terms.proofs.Searches.{prefix_passes}

pub skips_blank : (text next after : Text) (b : ℕ) → text ≡ b ∷ next → b ≡ 32 → SkipsBlanks next after
    → SkipsBlanks text after
skips_blank text next after b text_is b_is s = record {
  gap = b ∷ s.gap;
  text_is = text_is ∙ ap (λ t. b ∷ t) s.text_is;
  blanks = All-cons (λ b. b ≡ 32) b s.gap b_is s.blanks;
  dark = s.dark;
}

pub skips_none : (text : Text) → Stops (λ b. b == 32) text → SkipsBlanks text text
skips_none text dark = record { gap = []; text_is = refl; blanks = All-nil _; dark = dark }

pub skips_dark : (text next : Text) (b : ℕ) → text ≡ b ∷ next → (b ≡ 32 → ⊥) → SkipsBlanks text text
skips_dark text next b text_is dark = skips_none text (subst (Stops (λ b. b == 32)) (sym text_is) (ne_eqb b 32 dark))

pub skips_end : (text : Text) → text ≡ [] → SkipsBlanks text text
skips_end text none = skips_none text (subst (Stops (λ b. b == 32)) (sym none) tt)

-- so many bytes that are no parentheses
pub record GoesOver (text at : Text) (len : ℕ) : Type 0 where
  pub over : Text
  pub text_is : text ≡ over ++ at
  pub each : All (λ b. is_inner_byte b ≡ true) over
  pub count : length over ≡ len

pub over_none : (text : Text) → GoesOver text text 0
over_none text = record { over = []; text_is = refl; each = All-nil _; count = refl }

inner_byte : (b : ℕ) → (b ≡ 40 → ⊥) → (b ≡ 41 → ⊥) → is_inner_byte b ≡ true
inner_byte b p q = ap not (ap (λ x. x || b == 41) (ne_eqb b 40 p) ∙ ne_eqb b 41 q)

pub over_more : (text at next : Text) (len b : ℕ) → GoesOver text at len → at ≡ b ∷ next → (b ≡ 40 → ⊥) → (b ≡ 41 → ⊥)
    → GoesOver text next (len + 1)
over_more text at next len b g at_is p q = record {
  over = g.over ++ b ∷ [];
  text_is = g.text_is ∙ ap (λ t. g.over ++ t) at_is ∙ sym (append_assoc g.over (b ∷ []) next);
  each = All-push (λ b. is_inner_byte b ≡ true) g.over b g.each (inner_byte b p q);
  count = omega (arith, g.count, length-append g.over (b ∷ []));
}

-- the front of that length, and what follows
pub over_front : (text at : Text) (len : ℕ) → (g : GoesOver text at len) → take len text ≡ g.over
over_front text at len g = ap (take len) g.text_is ∙ take_at g.over at len g.count

pub over_within : (text at : Text) (len : ℕ) → GoesOver text at len → len + length at ≡ length text
over_within text at len g = omega (arith, g.count, ap length g.text_is, length-append g.over at)

-- A member's own list: none, one, or one that does not close.
pub no_inner : (text dark : Text) → SkipsBlanks text dark → ((next : Text) → dark ≡ 40 ∷ next → ⊥) → BeginsInner text
    → ⊥
no_inner text dark s none b =
    none b.1 ((cut_only is_space s.gap dark b.0 (40 ∷ b.1) (sym s.text_is ∙ b.3) (blanks_each s.gap s.blanks) s.dark
    (blanks_each b.0 b.2) refl).1)

pub some_inner : (text dark inside list close after : Text) → SkipsBlanks text dark → dark ≡ 40 ∷ inside
    → inside ≡ list ++ close → All (λ b. is_inner_byte b ≡ true) list → close ≡ 41 ∷ after
    → TakesInner text (Some list) after
some_inner text dark inside list close after s opens cut each closes = (
  s.gap,
  s.blanks,
  each,
  s.text_is ∙ ap (λ d. s.gap ++ d)
      (opens ∙ ap (λ i. 40 ∷ i) (cut ∙ ap (λ c. list ++ c) closes)),
)

pub bad_inner : (text dark inside list close : Text) → SkipsBlanks text dark → dark ≡ 40 ∷ inside
    → inside ≡ list ++ close → All (λ b. is_inner_byte b ≡ true) list → Stops is_inner_byte close
    → ((next : Text) → close ≡ 41 ∷ next → ⊥)
    → (k : Option Text) (after : Text) → TakesInner text k after → ⊥
bad_inner text dark inside list close s opens cut each stops open' None after t =
    t.1 (s.gap, inside, s.blanks, s.text_is ∙ ap (λ d. s.gap ++ d) opens)
bad_inner text dark inside list close s opens cut each stops open' (Some l) after t =
    let gaps = cut_only is_space s.gap dark t.0 (40 ∷ l ++ 41 ∷ after) (sym s.text_is ∙ t.3)
    (blanks_each s.gap s.blanks) s.dark (blanks_each t.0 t.1) refl in
    let inner : list ++ close ≡ l ++ 41 ∷ after = cc (opens, gaps.1, cut) in
    open' after ((cut_only is_inner_byte list close l (41 ∷ after) inner each stops t.2 refl).1)

-- Where the first member begins.
pub only_first : (first : Bool) (text dark : Text) → first ≡ true → SkipsBlanks text dark → (gap next : Text)
    → text ≡ gap ++ next → IsBefore first gap → BeginsMember next → next ≡ dark
only_first true text dark e s gap next text_is before member =
    (first_start text gap next s.gap dark text_is before member s.text_is s.blanks s.dark).1
only_first false text dark e s gap next text_is before member = absurd (false≢true e)

-- Where a later one begins, behind a comma.
pub start_comma : (first : Bool) (text dark next dark' : Text) → first ≡ false → SkipsBlanks text dark
    → dark ≡ 44 ∷ next → SkipsBlanks next dark' → (gap : Text) × (text ≡ gap ++ dark') × IsBefore first gap
start_comma true text dark next dark' e s comma s' = absurd (false≢true (sym e))
start_comma false text dark next dark' e s comma s' = (
  s.gap ++ 44 ∷ s'.gap,
  s.text_is ∙ ap (λ d. s.gap ++ d) (comma ∙ ap (λ n. 44 ∷ n) s'.text_is) ∙ sym (append_assoc s.gap (44 ∷ s'.gap) dark'),
  inr (s.gap, s'.gap, refl, s.blanks, s'.blanks),
)

pub only_comma : (first : Bool) (text dark next dark' : Text) → first ≡ false → SkipsBlanks text dark → dark ≡ 44 ∷ next
    → SkipsBlanks next dark' → (gap start : Text) → text ≡ gap ++ start → IsBefore first gap → BeginsMember start
    → start ≡ dark'
only_comma true text dark next dark' e s comma s' gap start text_is before member = absurd (false≢true (sym e))
only_comma false text dark next dark' e s comma s' gap start text_is (inl h) member =
    let same = first_start text gap start s.gap dark text_is h.1 member s.text_is s.blanks s.dark in
    absurd (no_comma start next member (same.1 ∙ comma))
only_comma false text dark next dark' e s comma s' gap start text_is (inr k) member =
    let same = comma_start text k.0 k.1 start s.gap dark (text_is ∙ ap (λ g. g ++ start) k.2) k.3 s.text_is s.blanks
    s.dark in
    let nexts : k.1 ++ start ≡ next = cc (same, comma) in
    (first_start next k.1 start s'.gap dark' (sym nexts) k.4 member s'.text_is s'.blanks s'.dark).1

-- Behind blanks.
some_gap : (text gap dark next : Text) → text ≡ gap ++ dark → Stops is_space dark → text ≡ 32 ∷ next → 0 < length gap
some_gap text [] [] next text_is stops blank = absurd (cc (sym text_is ∙ blank))
some_gap text [] (b ∷ dark) next text_is stops blank =
    let b_is : b ≡ 32 = cc (text_is, blank) in
    absurd (false≢true (sym stops ∙ ap is_space b_is))
some_gap text (b ∷ gap) dark next text_is stops blank = omega arith

pub start_blank : (first : Bool) (text dark next : Text) → first ≡ false → SkipsBlanks text dark → text ≡ 32 ∷ next
    → (gap : Text) × (text ≡ gap ++ dark) × IsBefore first gap
start_blank true text dark next e s blank = absurd (false≢true (sym e))
start_blank false text dark next e s blank = (
  s.gap,
  s.text_is,
  inl (some_gap text s.gap dark next s.text_is s.dark blank, s.blanks),
)

pub only_blank : (first : Bool) (text dark : Text) → first ≡ false → SkipsBlanks text dark
    → ((next : Text) → dark ≡ 44 ∷ next → ⊥) → (gap start : Text) → text ≡ gap ++ start → IsBefore first gap
    → BeginsMember start → start ≡ dark
only_blank true text dark e s none gap start text_is before member = absurd (false≢true (sym e))
only_blank false text dark e s none gap start text_is (inl h) member =
    (first_start text gap start s.gap dark text_is h.1 member s.text_is s.blanks s.dark).1
only_blank false text dark e s none gap start text_is (inr k) member =
    absurd (none (k.1 ++ start) (comma_start text k.0 k.1 start s.gap dark (text_is ∙ ap (λ g. g ++ start) k.2) k.3
    s.text_is s.blanks s.dark))

first_blank : (text gap start : Text) → text ≡ gap ++ start → 0 < length gap → AreBlanks gap
    → (next : Text) × (text ≡ 32 ∷ next)
first_blank text [] start text_is some blanks = absurd (omega (arith, some))
first_blank text (b ∷ gap) start text_is some blanks = (
  gap ++ start,
  text_is
      ∙ ap (λ c. c ∷ (gap ++ start)) (All-head (λ b. b ≡ 32) b gap blanks),
)

-- Without a separator none begins.
pub only_none : (first : Bool) (text dark : Text) → first ≡ false → SkipsBlanks text dark
    → ((next : Text) → dark ≡ 44 ∷ next → ⊥) → ((next : Text) → text ≡ 32 ∷ next → ⊥) → (gap start : Text)
    → text ≡ gap ++ start → IsBefore first gap → BeginsMember start → ⊥
only_none true text dark e s none dense gap start text_is before member = absurd (false≢true (sym e))
only_none false text dark e s none dense gap start text_is (inl h) member =
    let b = first_blank text gap start text_is h.0 h.1 in
    dense b.0 b.1
only_none false text dark e s none dense gap start text_is (inr k) member =
    none (k.1 ++ start) (comma_start text k.0 k.1 start s.gap dark (text_is ∙ ap (λ g. g ++ start) k.2) k.3 s.text_is
    s.blanks s.dark)

-- blanks to the end
pub blank_end : (text dark : Text) → SkipsBlanks text dark → dark ≡ [] → AreBlanks text
blank_end text dark s none = subst AreBlanks (sym (s.text_is ∙ ap (λ d. s.gap ++ d) none ∙ append-nil s.gap)) s.blanks

pub dark_end : (text dark : Text) → SkipsBlanks text dark → AreBlanks text → dark ≡ []
dark_end text dark s blanks =
    sym ((cut_only is_space text [] s.gap dark (append-nil text ∙ s.text_is) (blanks_each text blanks) tt
    (blanks_each s.gap s.blanks) s.dark).1)

-- A run of member characters in a line, which no line runs over.
tail_stops : (more : ℕ) (later : List (List ℕ)) → Stops is_member_byte (take more (followed later))
tail_stops zero later = tt
tail_stops (suc more) [] = tt
tail_stops (suc more) (r ∷ rs) = refl

stops_behind : (line tail : Text) → BeginsOutside is_member_byte line → Stops is_member_byte tail
    → Stops is_member_byte (line ++ tail)
stops_behind [] tail h stops = stops
stops_behind (b ∷ line) tail h stops = h

pub run_within : (line : Text) (n : ℕ) → n ≡ prefix_len is_member_byte line → n ≤ length line
run_within line n n_is = omega (arith, n_is, prefix_len-le-length is_member_byte line)

pub takes_run : (line word line' : Text) (more : ℕ) (later : List (List ℕ)) (n : ℕ) → n ≡ prefix_len is_member_byte line
    → (n ≡ 0 → ⊥) → word ≡ take n line → line' ≡ drop n line
    → TakesRun (line ++ take more (followed later)) word (line' ++ take more (followed later))
takes_run line word line' more later n n_is some word_is line'_is =
    let tail = take more (followed later) in
    let cut : line ≡ word ++ line' = sym (take-append-drop n line) ∙ ap (λ w. w ++ drop n line) (sym word_is)
    ∙ ap (λ l. word ++ l) (sym line'_is) in
    let word_is' : take (prefix_len is_member_byte line) line ≡ word = ap (λ k. take k line) (sym n_is) ∙ sym word_is in
    let line_is' : drop (prefix_len is_member_byte line) line ≡ line' = ap (λ k. drop k line) (sym n_is) ∙ sym line'_is
    in
    record {
      text_is = ap (λ l. l ++ tail) cut ∙ append_assoc word line' tail;
      some = omega (arith, ap length word_is, length-take-le n line (run_within line n n_is), some);
      each = subst (λ w. All (λ b. is_member_byte b ≡ true) w) word_is' (prefix_passes is_member_byte line);
      ends = stops_behind line' tail (subst (BeginsOutside is_member_byte) line_is' (back_fails is_member_byte line 0))
          (tail_stops more later);
    }

no_begin : (text : Text) → Stops is_member_byte text → BeginsMember text → ⊥
no_begin [] stops h = h
no_begin (b ∷ text) stops h = false≢true (sym stops ∙ h)

stops_run : (text word after : Text) → Stops is_member_byte text → TakesRun text word after → ⊥
stops_run text word after stops t = no_begin text stops (run_begins text word after t.text_is t.some t.each)

pub no_run : (line : Text) (more : ℕ) (later : List (List ℕ)) (n : ℕ) → n ≡ prefix_len is_member_byte line → n ≡ 0
    → (word after : Text) → TakesRun (line ++ take more (followed later)) word after → ⊥
no_run line more later n n_is none word after t =
    let all : drop (prefix_len is_member_byte line) line ≡ line = ap (λ k. drop k line) (sym n_is ∙ none) in
    stops_run (line ++ take more (followed later)) word after
    (stops_behind line (take more (followed later)) (subst (BeginsOutside is_member_byte) all
    (back_fails is_member_byte line 0)) (tail_stops more later)) t

-- The members that are left, one by one.
pub has_left : (first : Bool) (text : Text) (m : Word) (after : Text) (ms : List Word) → TakesNext first text m after
    → HasMore after ms → HasLeft first text (m ∷ ms)
has_left true text m after ms t h = (after, t, h)
has_left false text m after ms t h = (after, t, h)

pub left_only : (first : Bool) (text : Text) (m : Word) (after : Text) (ms : List Word) → TakesNext first text m after
    → HasLeft first text ms → (rest : List Word) × (ms ≡ m ∷ rest) × HasMore after rest
left_only true text m after [] t h = absurd h
left_only true text m after (n ∷ ms) t h =
    let same = next_only true text m n after h.0 t h.1 in
    (ms, ap (λ x. x ∷ ms) (sym same.0), subst (λ a. HasMore a ms) (sym same.1) h.2)
left_only false text m after [] t h = absurd (blanks_none false text m after h t)
left_only false text m after (n ∷ ms) t h =
    let same = next_only false text m n after h.0 t h.1 in
    (ms, ap (λ x. x ∷ ms) (sym same.0), subst (λ a. HasMore a ms) (sym same.1) h.2)

pub no_left : (first : Bool) (text : Text) → ((m : Word) (after : Text) → TakesNext first text m after → ⊥)
    → (first ≡ false → AreBlanks text → ⊥) → (ms : List Word) → HasLeft first text ms → ⊥
no_left true text none dark [] h = h
no_left true text none dark (m ∷ ms) h = none m h.0 h.1
no_left false text none dark [] h = dark refl h
no_left false text none dark (m ∷ ms) h = none m h.0 h.1

pub end_left : (first : Bool) (text : Text) → first ≡ false → AreBlanks text → HasLeft first text []
end_left true text e blanks = absurd (false≢true (sym e))
end_left false text e blanks = blanks

pub end_only : (first : Bool) (text : Text) → first ≡ false → AreBlanks text → (ms : List Word) → HasLeft first text ms
    → ms ≡ []
end_only true text e blanks ms h = absurd (false≢true (sym e))
end_only false text e blanks [] h = refl
end_only false text e blanks (m ∷ ms) h = absurd (blanks_none false text m h.0 blanks h.1)

-- A member from its start, its word and its own list.
pub takes_next : (first : Bool) (text start behind after word : Text) (list : Option Text)
    → ((gap : Text) × (text ≡ gap ++ start) × IsBefore first gap) → TakesRun start word behind
    → TakesInner behind list after → TakesNext first text (record { word = word; list = list }) after
takes_next first text start behind after word list s run inner = (s.0, start, s.1, s.2, (behind, run, inner))

inner_shorter : (text : Text) (list : Option Text) (after : Text) → TakesInner text list after
    → length after ≤ length text
inner_shorter text None after t = omega (arith, ap length t.0)
inner_shorter text (Some list) after t = omega (
  arith,
  ap length t.3,
  length-append t.0 (40 ∷ list ++ 41 ∷ after),
  length-append (40 ∷ list) (41 ∷ after),
)

pub next_shorter : (first : Bool) (text : Text) (m : Word) (after : Text) → TakesNext first text m after
    → length after < length text
next_shorter first text m after t =
    omega (
      arith,
      ap length t.2,
      length-append t.0 t.1,
      t.4.1.some,
      ap length t.4.1.text_is,
      length-append m.word t.4.0,
      inner_shorter t.4.0 m.list after t.4.2,
    )

-- Why none follows: none begins, or its word or its own list is none.
pub none_begins : (first : Bool) (text : Text) → ((gap next : Text) → text ≡ gap ++ next → IsBefore first gap
    → BeginsMember next → ⊥) → (m : Word) (after : Text) → TakesNext first text m after → ⊥
none_begins first text none m after t = none t.0 t.1 t.2 t.3 (member_first t.1 m after t.4)

pub none_runs : (first : Bool) (text start : Text) → ((gap next : Text) → text ≡ gap ++ next → IsBefore first gap
    → BeginsMember next → next ≡ start) → ((word after : Text) → TakesRun start word after → ⊥)
    → (m : Word) (after : Text) → TakesNext first text m after → ⊥
none_runs first text start only none m after t =
    let same = only t.0 t.1 t.2 t.3 (member_first t.1 m after t.4) in
    none m.word t.4.0 (subst (λ s. TakesRun s m.word t.4.0) same t.4.1)

pub none_closes : (first : Bool) (text start word behind : Text)
    → ((gap next : Text) → text ≡ gap ++ next → IsBefore first gap → BeginsMember next → next ≡ start)
    → TakesRun start word behind → ((list : Option Text) (after : Text) → TakesInner behind list after → ⊥)
    → (m : Word) (after : Text) → TakesNext first text m after → ⊥
none_closes first text start word behind only run none m after t =
    let same = only t.0 t.1 t.2 t.3 (member_first t.1 m after t.4) in
    let behinds = run_only start m.word t.4.0 word behind (subst (λ s. TakesRun s m.word t.4.0) same t.4.1) run in
    none m.list after (subst (λ b. TakesInner b m.list after) behinds.1 t.4.2)
