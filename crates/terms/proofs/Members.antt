-- Members of a list are determined.
use Rattle.std.specs.Prelude.{◌==◌, ◌||◌, All}
use Rattle.std.proofs.Common.{◌≡◌, ◌<◌, ℕ, Bool, true, false, [], ◌∷◌, ◌++◌, length, Option, Some, None, refl, sym, ◌∙◌}
use Rattle.std.proofs.Common.{ap, ap₂, subst, arith, inl, inr, append_assoc, eq-eqb}
use Rattle.std.proofs.lemmas.Bool.{true≢false, false≢true, not-true, or_parts}
use Rattle.std.proofs.lemmas.List.Elements.{All-head, All-tail, All-weaker}
use Rattle.terms.specs.Types.{Text}
use Rattle.terms.proofs.Longest.{StartsWithout, longest_only}
use Rattle.terms.specs.Forms.{AreBlanks}
use Rattle.terms.specs.Words.{Word, is_member_byte, is_inner_byte, TakesRun, Stops, TakesInner, TakesMember, IsBefore}
use Rattle.terms.specs.Words.{TakesNext}

abbrev Each : (ℕ → Bool) → Text → Type 0
Each test text = All (λ b. test b ≡ true) text

without : (test : ℕ → Bool) (text : Text) → Stops test text → StartsWithout (λ b. test b ≡ true) text
without test [] stops = tt
without test (b ∷ bs) stops = λ passes. true≢false (sym passes ∙ stops)

-- A longest front that passes a test is determined.
pub cut_only : (test : ℕ → Bool) (front back front' back' : Text) → front ++ back ≡ front' ++ back' → Each test front
    → Stops test back → Each test front' → Stops test back' → (front ≡ front') × (back ≡ back')
cut_only test front back front' back' e each stops each' stops' =
    longest_only (λ b. test b ≡ true) front back front' back' e each (without test back stops) each'
    (without test back' stops')

abbrev pub is_space : ℕ → Bool
is_space b = b == 32

pub blanks_each : (gap : Text) → AreBlanks gap → Each is_space gap
blanks_each gap h = All-weaker (λ b. b ≡ 32) (λ b. is_space b ≡ true) (λ b e. eq-eqb b 32 e) gap h

pub run_only : (text word after word' after' : Text) → TakesRun text word after → TakesRun text word' after'
    → (word ≡ word') × (after ≡ after')
run_only text word after word' after' t u =
    cut_only is_member_byte word after word' after' (sym t.text_is ∙ u.text_is) t.each t.ends u.each u.ends

inner_only : (text : Text) (k l : Option Text) (after after' : Text) → TakesInner text k after
    → TakesInner text l after' → (k ≡ l) × (after ≡ after')
inner_only text None None after after' t u = (refl, sym t.0 ∙ u.0)
inner_only text None (Some l) after after' t u = absurd (t.1 (u.0, l ++ 41 ∷ after', u.1, u.3))
inner_only text (Some k) None after after' t u = absurd (u.1 (t.0, k ++ 41 ∷ after, t.1, t.3))
inner_only text (Some k) (Some l) after after' t u =
    let gaps = cut_only is_space t.0 (40 ∷ k ++ 41 ∷ after) u.0 (40 ∷ l ++ 41 ∷ after') (sym t.3 ∙ u.3)
    (blanks_each t.0 t.1) refl (blanks_each u.0 u.1) refl in
    let inner : k ++ 41 ∷ after ≡ l ++ 41 ∷ after' = cc (gaps.1) in
    let lists = cut_only is_inner_byte k (41 ∷ after) l (41 ∷ after') inner t.2 refl u.2 refl in
    (ap (λ x. Some x) lists.0, cc (lists.1))

words_same : (w v : Word) → w.word ≡ v.word → w.list ≡ v.list → w ≡ v
words_same w v e f = ap₂ (λ a b. record { word = a; list = b }) e f

pub member_only : (text : Text) (m n : Word) (after after' : Text) → TakesMember text m after
    → TakesMember text n after' → (m ≡ n) × (after ≡ after')
member_only text m n after after' t u =
    let run = run_only text m.word t.0 n.word u.0 t.1 u.1 in
    let inner = inner_only t.0 m.list n.list after after' t.2 (subst (λ x. TakesInner x n.list after') (sym run.1) u.2)
    in
    (words_same m n run.0 inner.0, inner.1)

-- a member begins with no blank and no comma
pub member_begins : (b : ℕ) → is_member_byte b ≡ true → ((b == 32) ≡ false) × ((b == 44) ≡ false)
member_begins b h =
    let all = not-true (b == 32 || b == 44 || b == 40 || b == 41) h in
    let a = or_parts (b == 32 || b == 44 || b == 40) (b == 41) all in
    let c = or_parts (b == 32 || b == 44) (b == 40) a.0 in
    or_parts (b == 32) (b == 44) c.0

-- a member comes first
abbrev pub BeginsMember : Text → Type 0
BeginsMember [] = ⊥
BeginsMember (b ∷ bs) = is_member_byte b ≡ true

pub run_begins : (text word after : Text) → text ≡ word ++ after → 0 < length word → Each is_member_byte word
    → BeginsMember text
run_begins text [] after text_is some each = absurd (omega (arith, some))
run_begins [] (b ∷ word) after text_is some each = absurd (cc (text_is))
run_begins (c ∷ text) (b ∷ word) after text_is some each =
    let same : c ≡ b = cc (text_is) in
    ap is_member_byte same ∙ All-head (λ b. is_member_byte b ≡ true) b word each

pub member_first : (text : Text) (m : Word) (after : Text) → TakesMember text m after → BeginsMember text
member_first text m after t = run_begins text m.word t.0 t.1.text_is t.1.some t.1.each

pub begins_dark : (text : Text) → BeginsMember text → Stops is_space text
begins_dark [] h = tt
begins_dark (b ∷ bs) h = (member_begins b h).0

pub no_comma : (text next : Text) → BeginsMember text → text ≡ 44 ∷ next → ⊥
no_comma [] next h e = h
no_comma (b ∷ bs) next h e =
    let same : b ≡ 44 = cc (e) in
    absurd (false≢true (ap is_member_byte (sym same) ∙ h))

comma_next : (left right next text : Text) → text ≡ (left ++ 44 ∷ right) ++ next → text ≡ left ++ (44 ∷ (right ++ next))
comma_next left right next text e = e ∙ append_assoc left (44 ∷ right) next

-- where blanks alone come before a member, and where a separator does
pub first_start : (text gap next blanks dark : Text) → text ≡ gap ++ next → AreBlanks gap → BeginsMember next
    → text ≡ blanks ++ dark → AreBlanks blanks → Stops is_space dark → (gap ≡ blanks) × (next ≡ dark)
first_start text gap next blanks dark e h member f k stops =
    cut_only is_space gap next blanks dark (sym e ∙ f) (blanks_each gap h) (begins_dark next member)
    (blanks_each blanks k) stops

pub comma_start : (text left right next blanks dark : Text) → text ≡ (left ++ 44 ∷ right) ++ next → AreBlanks left
    → text ≡ blanks ++ dark → AreBlanks blanks → Stops is_space dark → dark ≡ 44 ∷ (right ++ next)
comma_start text left right next blanks dark e h f k stops =
    sym ((cut_only is_space left (44 ∷ (right ++ next)) blanks dark (sym (comma_next left right next text e) ∙ f)
    (blanks_each left h) refl (blanks_each blanks k) stops).1)

gaps_only : (first : Bool) (text gap next gap' next' : Text) → text ≡ gap ++ next → IsBefore first gap
    → BeginsMember next → text ≡ gap' ++ next' → IsBefore first gap' → BeginsMember next' → next ≡ next'
gaps_only true text gap next gap' next' e h m e' h' m' = (first_start text gap next gap' next' e h m e' h'
    (begins_dark next' m')).1
gaps_only false text gap next gap' next' e (inl h) m e' (inl h') m' =
    (first_start text gap next gap' next' e h.1 m e' h'.1 (begins_dark next' m')).1
gaps_only false text gap next gap' next' e (inl h) m e' (inr k) m' =
    absurd (no_comma next (k.1 ++ next') m (comma_start text k.0 k.1 next' gap next (e' ∙ ap (λ g. g ++ next') k.2) k.3
    e h.1 (begins_dark next m)))
gaps_only false text gap next gap' next' e (inr k) m e' (inl h') m' =
    absurd (no_comma next' (k.1 ++ next) m' (comma_start text k.0 k.1 next gap' next' (e ∙ ap (λ g. g ++ next) k.2) k.3
    e' h'.1 (begins_dark next' m')))
gaps_only false text gap next gap' next' e (inr k) m e' (inr l) m' =
    let whole : k.0 ++ (44 ∷ (k.1 ++ next)) ≡ l.0 ++ (44 ∷ (l.1 ++ next')) =
    sym (comma_next k.0 k.1 next text (e ∙ ap (λ g. g ++ next) k.2))
    ∙ comma_next l.0 l.1 next' text (e' ∙ ap (λ g. g ++ next') l.2) in
    let cut = cut_only is_space k.0 (44 ∷ (k.1 ++ next)) l.0 (44 ∷ (l.1 ++ next')) whole (blanks_each k.0 k.3) refl
    (blanks_each l.0 l.3) refl in
    let rests : k.1 ++ next ≡ l.1 ++ next' = cc (cut.1) in
    (cut_only is_space k.1 next l.1 next' rests (blanks_each k.1 k.4) (begins_dark next m) (blanks_each l.1 l.4)
    (begins_dark next' m')).1

-- The next member is determined.
pub next_only : (first : Bool) (text : Text) (m n : Word) (after after' : Text) → TakesNext first text m after
    → TakesNext first text n after' → (m ≡ n) × (after ≡ after')
next_only first text m n after after' t u =
    let same = gaps_only first text t.0 t.1 u.0 u.1 t.2 t.3 (member_first t.1 m after t.4) u.2 u.3
    (member_first u.1 n after' u.4) in
    member_only t.1 m n after after' t.4 (subst (λ x. TakesMember x n after') (sym same) u.4)

blanks_behind : (gap next : Text) → AreBlanks (gap ++ next) → AreBlanks next
blanks_behind [] next h = h
blanks_behind (b ∷ gap) next h = blanks_behind gap next (All-tail (λ b. b ≡ 32) b (gap ++ next) h)

none_in : (next : Text) → BeginsMember next → AreBlanks next → ⊥
none_in [] member h = member
none_in (b ∷ next) member h = false≢true (ap is_member_byte (sym (All-head (λ b. b ≡ 32) b next h)) ∙ member)

-- Blanks alone hold no member.
pub blanks_none : (first : Bool) (text : Text) (m : Word) (after : Text) → AreBlanks text → TakesNext first text m after
    → ⊥
blanks_none first text m after blanks t =
    none_in (t.1) (member_first t.1 m after t.4) (blanks_behind t.0 t.1 (subst AreBlanks t.2 blanks))
