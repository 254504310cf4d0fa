-- Texts of elements: records of bytes, equal texts, what an update touches, and that no good text has a fault.
use Rattle.std.proofs.Common.{◌≡◌, ◌<◌, ◌≤◌, ◌+◌, ℕ, suc, List, [], ◌∷◌, ◌++◌, length, take, drop, map, refl, sym, ◌∙◌}
use Rattle.std.proofs.Common.{ap, cond, arith, inl, inr, zero, None, Some}
use Rattle.std.specs.List.{All, flat_map}
use Rattle.std.specs.List.Sorted.{IsStrictlyIncreasing}
use Rattle.std.proofs.lemmas.List.{append-nil, length-append, take_at, drop_at}
use Rattle.std.proofs.lemmas.List.Elements.{All-nil, All-head, All-tail, All-push}
use Rattle.std.proofs.lemmas.Grind.{flat_map-append}
use Rattle.std.proofs.lemmas.Bool.{cases_eq, cases_order, eq-eqb, ne_eqb}
use Rattle.terms.specs.declared.kinds.ElemType.{ElemType}
use Rattle.terms.specs.declared.kinds.ElemType.TheVariants.{Mac, Src}
use Rattle.terms.specs.Types.{Lines}
use Rattle.terms.specs.Texts.{HasLines, number_of, IsNumbered, line_at, TakesUpdates, HasForm}

-- records of bytes

pub lines_none : HasLines [] []
lines_none = record { bytes_are = refl; each = All-nil _ }

pub lines_more : (bytes : List ℕ) (lines : Lines) (line : List ℕ) → HasLines bytes lines → length line ≡ 80
    → HasLines (bytes ++ line) (lines ++ line ∷ [])
lines_more bytes lines line h len = record {
  bytes_are = ap (λ b. b ++ line) h.bytes_are ∙ sym (flat_map-append (λ (l : List ℕ). l) lines (line ∷ [])
      ∙ ap (λ l. flat_map (λ (k : List ℕ). k) lines ++ l) (append-nil line));
  each = All-push (λ l. length l ≡ 80) lines line h.each len;
}

same_joined : (a b : Lines) → All (λ line. length line ≡ 80) a → All (λ line. length line ≡ 80) b
    → flat_map (λ line. line) a ≡ flat_map (λ line. line) b → a ≡ b
same_joined [] [] h k e = refl
same_joined [] (y ∷ ys) h k e =
    let len : length y ≡ 80 = All-head (λ line. length line ≡ 80) y ys k in
    let lens = ap length e ∙ length-append y (flat_map (λ line. line) ys) in
    absurd (omega (arith, len, lens))
same_joined (x ∷ xs) [] h k e =
    let len : length x ≡ 80 = All-head (λ line. length line ≡ 80) x xs h in
    let lens = ap length (sym e) ∙ length-append x (flat_map (λ line. line) xs) in
    absurd (omega (arith, len, lens))
same_joined (x ∷ xs) (y ∷ ys) h k e =
    let len_x : length x ≡ 80 = All-head (λ line. length line ≡ 80) x xs h in
    let len_y : length y ≡ 80 = All-head (λ line. length line ≡ 80) y ys k in
    let heads : x ≡ y = sym (take_at x (flat_map (λ line. line) xs) 80 len_x) ∙ ap (take 80) e
    ∙ take_at y (flat_map (λ line. line) ys) 80 len_y in
    let tails = sym (drop_at x (flat_map (λ line. line) xs) 80 len_x) ∙ ap (drop 80) e
    ∙ drop_at y (flat_map (λ line. line) ys) 80 len_y in
    let rest = same_joined xs ys (All-tail (λ line. length line ≡ 80) x xs h)
    (All-tail (λ line. length line ≡ 80) y ys k) tails in
    cc

-- The bytes determine their records.
pub same_lines : (bytes : List ℕ) (a b : Lines) → HasLines bytes a → HasLines bytes b → a ≡ b
same_lines bytes a b h k = same_joined a b h.each k.each (sym h.bytes_are ∙ k.bytes_are)

-- the texts of a type

pub numbered_form : (type : ElemType) (text : Lines) → TakesUpdates type → IsNumbered text → HasForm type text
numbered_form Mac text takes numbered = numbered
numbered_form Src text takes numbered = numbered
numbered_form type text takes numbered = tt

pub free_form : (type : ElemType) (text : Lines) → ¬ TakesUpdates type → HasForm type text
free_form Mac text free = absurd (free tt)
free_form Src text free = absurd (free tt)
free_form type text free = tt

pub form_numbered : (type : ElemType) (text : Lines) → TakesUpdates type → HasForm type text → IsNumbered text
form_numbered Mac text takes form = form
form_numbered Src text takes form = form
form_numbered type text takes form = absurd takes

-- numbers that rise, from a least one on

abbrev pub Rises : ℕ → Lines → Type 0
Rises least [] = Unit {0}
Rises least (x ∷ xs) = (least ≤ number_of x) × Rises (number_of x + 1) xs

increasing_rest : (n : ℕ) (ns : List ℕ) → IsStrictlyIncreasing (n ∷ ns) → IsStrictlyIncreasing ns
increasing_rest n ns h k below =
    let e : suc k + 1 ≡ suc (k + 1) = omega arith in
    (rw e at (h (suc k))) (omega (arith, below))

rises_from : (least : ℕ) (x : List ℕ) (xs : Lines) → IsStrictlyIncreasing (map number_of (x ∷ xs)) → least ≤ number_of x
    → Rises least (x ∷ xs)
rises_from least x [] h from = (from, tt)
rises_from least x (y ∷ ys) h from = (
  from,
  rises_from (number_of x + 1) y ys (increasing_rest (number_of x) (map number_of (y ∷ ys)) h)
      (omega (arith, h 0 (omega arith))),
)

-- Numbers that rise do so from any number that is not above the first.
pub Rises_from_increasing : (text : Lines) → IsStrictlyIncreasing (map number_of text) → Rises 0 text
Rises_from_increasing [] h = tt
Rises_from_increasing (x ∷ xs) h = rises_from 0 x xs h (omega arith)

pub increasing_from_Rises : (least : ℕ) (text : Lines) → Rises least text → IsStrictlyIncreasing (map number_of text)
increasing_from_Rises least [] h k below = absurd (omega (arith, below))
increasing_from_Rises least (x ∷ []) h k below = absurd (omega (arith, below))
increasing_from_Rises least (x ∷ y ∷ ys) h zero below = omega (arith, h.1.0)
increasing_from_Rises least (x ∷ y ∷ ys) h (suc k) below =
    let e : suc k + 1 ≡ suc (k + 1) = omega arith in
    let rest = increasing_from_Rises (number_of x + 1) (y ∷ ys) h.1 k (omega (arith, below)) in
    rw e rest

pub Rises_numbered : (text : Lines) → IsNumbered text → Rises 0 text
Rises_numbered text h = Rises_from_increasing text h.rising

pub Rises_lower : (low least : ℕ) (text : Lines) → low ≤ least → Rises least text → Rises low text
Rises_lower low least [] below h = tt
Rises_lower low least (x ∷ xs) below h = (omega (arith, h.0), h.1)

-- looking up

pub line_at_head : (x : List ℕ) (xs : Lines) → line_at (x ∷ xs) (number_of x) ≡ Some x
line_at_head x xs = ap (λ b. cond b (Some x) (line_at xs (number_of x))) (eq-eqb (number_of x) (number_of x) refl)

pub line_at_tail : (x : List ℕ) (xs : Lines) (n : ℕ) → (number_of x ≡ n → ⊥) → line_at (x ∷ xs) n ≡ line_at xs n
line_at_tail x xs n other = ap (λ b. cond b (Some x) (line_at xs n)) (ne_eqb (number_of x) n other)

-- no record stands below the least number
pub line_at_below : (least : ℕ) (text : Lines) (n : ℕ) → Rises least text → n < least → line_at text n ≡ None
line_at_below least [] n h below = refl
line_at_below least (x ∷ xs) n h below =
    let above : least ≤ number_of x = h.0 in
    line_at_tail x xs n (λ e. omega (arith, e, above)) ∙ line_at_below (number_of x + 1) xs n h.1 (omega (arith, above))

same_rising : (j k : ℕ) (a b : Lines) → Rises j a → Rises k b → ((n : ℕ) → line_at a n ≡ line_at b n) → a ≡ b
same_rising j k [] [] h i same = refl
same_rising j k [] (y ∷ ys) h i same = let e = same (number_of y) ∙ line_at_head y ys in absurd (cc e)
same_rising j k (x ∷ xs) [] h i same = let e = sym (same (number_of x)) ∙ line_at_head x xs in absurd (cc e)
same_rising j k (x ∷ xs) (y ∷ ys) h i same =
    elim (cases_order (number_of x) (number_of y)) [
      | inl e ↦
          let at_x = sym (line_at_head x xs) ∙ same (number_of x) ∙ ap (line_at (y ∷ ys)) e ∙ line_at_head y ys in
          let heads : x ≡ y = cc at_x in
          let tails = same_rising (number_of x + 1) (number_of y + 1) xs ys h.1 i.1 (λ n.
          elim (cases_eq (number_of x) n) [
            | inl here ↦ line_at_below (number_of x + 1) xs n h.1 (omega (arith, here))
                ∙ sym (line_at_below (number_of y + 1) ys n i.1 (omega (arith, here, e)))
            | inr other ↦ sym (line_at_tail x xs n other) ∙ same n ∙ line_at_tail y ys n (λ there. other (e ∙ there))
          ]) in
          cc (heads, tails)
      | inr apart ↦ elim apart [
        | inl less ↦ absurd (let none = line_at_below (number_of y) (y ∷ ys) (number_of x) (omega arith, i.1) less
            in cc (none, same (number_of x), line_at_head x xs))
        | inr more ↦ absurd (let none = line_at_below (number_of x) (x ∷ xs) (number_of y) (omega arith, h.1) more
            in cc (none, same (number_of y), line_at_head y ys))
      ]
    ]

-- Two numbered texts that are the same map are the same text.
pub same_text : (a b : Lines) → IsNumbered a → IsNumbered b → ((n : ℕ) → line_at a n ≡ line_at b n) → a ≡ b
same_text a b h k same = same_rising 0 0 a b (Rises_numbered a h) (Rises_numbered b k) same
