-- The merge of two lists of numbered records, and what it has at each number.
use Rattle.std.proofs.Common.{◌≡◌, ◌<◌, ◌+◌, ℕ, Bool, true, false, List, [], ◌∷◌}
use Rattle.std.proofs.Common.{refl, sym, ◌∙◌, ap, subst, arith, inl, inr, Option, None, Some}
use Rattle.std.specs.Prelude.{IsSome}
use Rattle.std.specs.List.{All}
use Rattle.std.proofs.lemmas.Bool.{cases_eq, true≢false, false_from_ne_true}
use Rattle.std.proofs.lemmas.List.Elements.{All-cons, All-head, All-tail}
use Rattle.terms.specs.Types.{Lines}
use Rattle.terms.specs.Texts.{IsNumberedLine, number_of, IsNumbered, line_at, given, IsMerge}
use Rattle.terms.proofs.Texts.{Rises, Rises_numbered, Rises_lower, increasing_from_Rises, line_at_head, line_at_tail}
use Rattle.terms.proofs.Texts.{line_at_below}
use Rattle.text80.specs.declared.control.Range.{Range}
use Rattle.text80.specs.Ranges.{covers, AreRangesOf}

-- Old records, given records and merged ones. D tells which numbers are deleted.
pub data Merges (D : ℕ → Bool) : Lines → Lines → Lines → Type 0 where
  ends : {gs : Lines} → Merges D [] gs gs
  below : {o g : List ℕ} {os gs ms : Lines} → number_of g < number_of o → Merges D (o ∷ os) gs ms
      → Merges D (o ∷ os) (g ∷ gs) (g ∷ ms)
  same : {o g : List ℕ} {os gs ms : Lines} → number_of g ≡ number_of o → Merges D os gs ms
      → Merges D (o ∷ os) (g ∷ gs) (g ∷ ms)
  stays : {o : List ℕ} {os gs ms : Lines} → Rises (number_of o + 1) gs → D (number_of o) ≡ false → Merges D os gs ms
      → Merges D (o ∷ os) gs (o ∷ ms)
  goes : {o : List ℕ} {os gs ms : Lines} → Rises (number_of o + 1) gs → D (number_of o) ≡ true → Merges D os gs ms
      → Merges D (o ∷ os) gs ms

rising : {D : ℕ → Bool} {os gs ms : Lines} (least : ℕ) → Merges D os gs ms → Rises least os → Rises least gs
    → Rises least ms
rising least ends h k = k
rising least (below {o = o} {g = g} lt m) h k = (k.0, rising (number_of g + 1) m (omega (arith, lt), h.1) k.1)
rising least (same {g = g} {os = os} e m) h k = (
  k.0,
  rising (number_of g + 1) m
      (subst (λ n. Rises (n + 1) os) (sym e) h.1) k.1,
)
rising least (stays {o = o} above d m) h k = (h.0, rising (number_of o + 1) m h.1 above)
rising least (goes {o = o} {ms = ms} above d m) h k =
    let from = h.0 in
    Rises_lower least (number_of o + 1) ms (omega (arith, from)) (rising (number_of o + 1) m h.1 above)

numbered : {D : ℕ → Bool} {os gs ms : Lines} → Merges D os gs ms → All IsNumberedLine os → All IsNumberedLine gs
    → All IsNumberedLine ms
numbered ends h k = k
numbered (below {g = g} {gs = gs} {ms = ms} lt m) h k = All-cons IsNumberedLine g ms (All-head IsNumberedLine g gs k)
    (numbered m h (All-tail IsNumberedLine g gs k))
numbered (same {o = o} {g = g} {os = os} {gs = gs} {ms = ms} e m) h k =
    All-cons IsNumberedLine g ms (All-head IsNumberedLine g gs k)
    (numbered m (All-tail IsNumberedLine o os h) (All-tail IsNumberedLine g gs k))
numbered (stays {o = o} {os = os} {ms = ms} above d m) h k =
    All-cons IsNumberedLine o ms (All-head IsNumberedLine o os h) (numbered m (All-tail IsNumberedLine o os h) k)
numbered (goes {o = o} {os = os} above d m) h k = numbered m (All-tail IsNumberedLine o os h) k

-- what a merge has at a number: the given record, else nothing where it deletes, else the old one
abbrev pick : Option (List ℕ) → Bool → Option (List ℕ) → Option (List ℕ)
pick (Some x) deleted old = Some x
pick None true old = None
pick None false old = old

pick_no_old : (g : Option (List ℕ)) (d : Bool) → pick g d None ≡ g
pick_no_old (Some x) d = refl
pick_no_old None true = refl
pick_no_old None false = refl

pick_given : (g : Option (List ℕ)) (d : Bool) (o : Option (List ℕ)) → IsSome g → pick g d o ≡ g
pick_given (Some x) d o h = refl
pick_given None d o h = absurd (true≢false (sym h))

pick_deleted : (g : Option (List ℕ)) (d : Bool) (o : Option (List ℕ)) → d ≡ true → pick g d o ≡ g
pick_deleted (Some x) d o h = refl
pick_deleted None true o h = refl
pick_deleted None false o h = absurd (true≢false (sym h))

pick_old : (g : Option (List ℕ)) (d : Bool) (o : Option (List ℕ)) → (IsSome g → ⊥) → d ≡ false → pick g d o ≡ o
pick_old (Some x) d o none h = absurd (none refl)
pick_old None true o none h = absurd (true≢false h)
pick_old None false o none h = refl

lookup : {D : ℕ → Bool} {os gs ms : Lines} (least : ℕ) → Merges D os gs ms → Rises least os → Rises least gs → (n : ℕ)
    → line_at ms n ≡ pick (line_at gs n) (D n) (line_at os n)
lookup {D} least (ends {gs = gs}) h k n = sym (pick_no_old (line_at gs n) (D n))
lookup {D} least (below {o = o} {g = g} {os = os} {gs = gs} {ms = ms} lt m) h k n =
    elim (cases_eq (number_of g) n) [
      | inl e ↦ subst (λ i. line_at (g ∷ ms) i ≡ pick (line_at (g ∷ gs) i) (D i) (line_at (o ∷ os) i)) e
          (line_at_head g ms ∙ sym (ap (λ x. pick x (D (number_of g)) (line_at (o ∷ os) (number_of g)))
          (line_at_head g gs)))
      | inr ne ↦ line_at_tail g ms n ne ∙ lookup (number_of g + 1) m (omega (arith, lt), h.1) k.1 n
          ∙ sym (ap (λ x. pick x (D n) (line_at (o ∷ os) n)) (line_at_tail g gs n ne))
    ]
lookup {D} least (same {o = o} {g = g} {os = os} {gs = gs} {ms = ms} same_number m) h k n =
    elim (cases_eq (number_of g) n) [
      | inl e ↦ subst (λ i. line_at (g ∷ ms) i ≡ pick (line_at (g ∷ gs) i) (D i) (line_at (o ∷ os) i)) e
          (line_at_head g ms ∙ sym (ap (λ x. pick x (D (number_of g)) (line_at (o ∷ os) (number_of g)))
          (line_at_head g gs)))
      | inr ne ↦ line_at_tail g ms n ne ∙ lookup (number_of g + 1) m
          (subst (λ i. Rises (i + 1) os) (sym same_number) h.1) k.1 n
          ∙ sym (ap (λ x. pick x (D n) (line_at os n)) (line_at_tail g gs n ne))
          ∙ ap (λ x. pick (line_at (g ∷ gs) n) (D n) x) (sym (line_at_tail o os n (λ e. ne (same_number ∙ e))))
    ]
lookup {D} least (stays {o = o} {os = os} {gs = gs} {ms = ms} above d m) h k n =
    elim (cases_eq (number_of o) n) [
      | inl e ↦ subst (λ i. line_at (o ∷ ms) i ≡ pick (line_at gs i) (D i) (line_at (o ∷ os) i)) e
          (line_at_head o ms ∙ sym (
          ap (λ x. pick x (D (number_of o)) (line_at (o ∷ os) (number_of o)))
          (line_at_below (number_of o + 1) gs (number_of o) above (omega arith))
          ∙ ap (λ b. pick None b (line_at (o ∷ os) (number_of o))) d ∙ line_at_head o os))
      | inr ne ↦ line_at_tail o ms n ne ∙ lookup (number_of o + 1) m h.1 above n
          ∙ ap (λ x. pick (line_at gs n) (D n) x) (sym (line_at_tail o os n ne))
    ]
lookup {D} least (goes {o = o} {os = os} {gs = gs} {ms = ms} above d m) h k n =
    elim (cases_eq (number_of o) n) [
      | inl e ↦ subst (λ i. line_at ms i ≡ pick (line_at gs i) (D i) (line_at (o ∷ os) i)) e
          (line_at_below (number_of o + 1) ms (number_of o) (rising (number_of o + 1) m h.1 above) (omega arith) ∙ sym (
          ap (λ x. pick x (D (number_of o)) (line_at (o ∷ os) (number_of o)))
          (line_at_below (number_of o + 1) gs (number_of o) above (omega arith))
          ∙ ap (λ b. pick None b (line_at (o ∷ os) (number_of o))) d))
      | inr ne ↦ lookup (number_of o + 1) m h.1 above n ∙ ap (λ x. pick (line_at gs n) (D n) x)
          (sym (line_at_tail o os n ne))
    ]

pub merge_numbered : (ranges : List Range) (old givens new : Lines) → Merges (covers ranges) old givens new
    → IsNumbered old → IsNumbered givens → IsNumbered new
merge_numbered ranges old givens new m h k = record {
  numbers = numbered m h.numbers k.numbers;
  rising = increasing_from_Rises 0 new (rising 0 m (Rises_numbered old h) (Rises_numbered givens k));
}

pub merge_from : (ranges : List Range) (old update givens new : Lines) → Merges (covers ranges) old givens new
    → IsNumbered old → IsNumbered givens → givens ≡ given update → AreRangesOf update ranges → IsMerge old update new
merge_from ranges old update givens new m h k g r =
    let at : (n : ℕ) → line_at new n ≡ pick (line_at (given update) n) (covers ranges n) (line_at old n) = λ n.
    lookup 0 m (Rises_numbered old h) (Rises_numbered givens k) n
    ∙ ap (λ l. pick (line_at l n) (covers ranges n) (line_at old n)) g in
    record {
      numbered = merge_numbered ranges old givens new m h k;
      touched = λ n t. at n ∙ elim t [
        | inl gives ↦ pick_given (line_at (given update) n) (covers ranges n) (line_at old n) gives
        | inr deletes ↦ pick_deleted (line_at (given update) n) (covers ranges n) (line_at old n) ((r n).1 deletes)
      ];
      others = λ n none. at n ∙ pick_old (line_at (given update) n) (covers ranges n) (line_at old n)
          (λ gives. none (inl gives))
          (false_from_ne_true (covers ranges n) (λ e. none (inr ((r n).0 e))));
    }
