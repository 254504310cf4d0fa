-- Reading records whose numbers rise, and the first fault.
use Rattle.std.proofs.Common.{◌≡◌, ◌<◌, ◌≤◌, ◌+◌, ℕ, suc, List, [], ◌∷◌, ◌++◌, length, take, drop, get_or}
use Rattle.std.proofs.Common.{sym, ◌∙◌, ap, subst, arith, inl, inr}
use Rattle.std.specs.List.{All, Any}
use Rattle.std.proofs.lemmas.List.{take-append-drop, drop_more, length-take-le, take_more}
use Rattle.std.proofs.lemmas.List.Elements.{All-push, All-weaker}
use Rattle.std.proofs.lemmas.List.Quantifiers.{Any-push}
use Rattle.terms.specs.declared.text_faults.TextCode.{TextCode}
use Rattle.terms.specs.declared.text_faults.TextCode.TheVariants.{NumberOutOfOrder}
use Rattle.terms.specs.declared.text_faults.TextFault.{TextFault}
use Rattle.terms.specs.Types.{Lines}
use Rattle.terms.specs.Texts.{IsNumberedLine, number_of, IsNumbered, BreaksOrder, HasNumberedFault}
use Rattle.terms.specs.Texts.{IsNumberedFault}
use Rattle.terms.proofs.Texts.{Rises, Rises_numbered, increasing_from_Rises}
use Rattle.text80.specs.Rising.{IsNumberFault}

-- These records are a numbered text, and the next number has to be `least` or higher.
pub record IsRead (seen : Lines) (least : ℕ) : Type 0 where
  pub numbered : IsNumbered seen
  pub below : All (λ b. number_of b < least) seen
  pub reached : (n : ℕ) → n < least → Any (λ b. n ≤ number_of b) seen

rises_push : (least : ℕ) (seen : Lines) (line : List ℕ) → Rises least seen
    → All (λ b. number_of b < number_of line) seen → least ≤ number_of line → Rises least (seen ++ line ∷ [])
rises_push least [] line h below from = (from, tt)
rises_push least (x ∷ xs) line h below from =
    let one = below 0 x (omega arith) in
    (h.0, rises_push (number_of x + 1) xs line h.1 (λ k d b. below (suc k) d (omega (arith, b))) (omega (arith, one)))

pub read_more : (seen : Lines) (least : ℕ) (line : List ℕ) → IsRead seen least → IsNumberedLine line
    → least ≤ number_of line → IsRead (seen ++ line ∷ []) (number_of line + 1)
read_more seen least line h numbered from =
    let Below : List ℕ → Type 0 = λ b. number_of b < number_of line + 1 in
    let lower = All-weaker (λ b. number_of b < least) (λ b. number_of b < number_of line)
    (λ b low. omega (arith, low, from)) seen h.below in
    let wider = All-weaker (λ b. number_of b < number_of line) Below (λ b low. omega (arith, low)) seen lower in
    record {
      numbered = record {
        numbers = All-push IsNumberedLine seen line h.numbered.numbers numbered;
        rising = increasing_from_Rises 0 (seen ++ line ∷ [])
            (rises_push 0 seen line (Rises_numbered seen h.numbered) lower (omega arith));
      };
      below = All-push Below seen line wider (omega arith);
      reached = λ n low. Any-push (λ b. n ≤ number_of b) seen line (omega (arith, low));
    }

-- one more record of a list, at its place
pub read_at : (lines : Lines) (i least n : ℕ) (line : List ℕ) → i < length lines → line ≡ get_or lines i line
    → IsRead (take i lines) least → IsNumberedLine line → n ≡ number_of line → least ≤ n
    → IsRead (take (i + 1) lines) (n + 1)
read_at lines i least n line below at h numbered is from =
    rw (take_more lines i line below, ← at, is) (read_more (take i lines) least line h numbered
    (subst (λ m. least ≤ m) is from))

-- The list, split at a place.
pub split_at_place : (lines : Lines) (i : ℕ) (line : List ℕ) → i < length lines → line ≡ get_or lines i line
    → lines ≡ take i lines ++ line ∷ drop (i + 1) lines
split_at_place lines i line below at =
    sym (take-append-drop i lines) ∙ ap (λ rest. take i lines ++ rest)
    (drop_more lines i line below ∙ ap (λ x. x ∷ drop (i + 1) lines) (sym at))

pub breaks : (seen : Lines) (least : ℕ) (line : List ℕ) → IsRead seen least → IsNumberedLine line
    → number_of line < least → BreaksOrder seen line
breaks seen least line h numbered low = (numbered, h.reached (number_of line) low)

numbered_code : (seen : Lines) (least : ℕ) (line : List ℕ) (code : TextCode) → IsRead seen least
    → IsNumberFault line least NumberOutOfOrder code → HasNumberedFault seen line code
numbered_code seen least line code h f =
    elim f [
      | inl none ↦ subst (HasNumberedFault seen line) (sym none.0) none.1
      | inr low ↦ subst (HasNumberedFault seen line) (sym low.0) (breaks seen least line h low.1 low.2)
    ]

pub numbered_fault : (lines : Lines) (i least : ℕ) (line : List ℕ) (fault : TextFault) → i < length lines
    → line ≡ get_or lines i line → IsRead (take i lines) least → fault.number ≡ i + 1
    → IsNumberFault line least NumberOutOfOrder fault.code → IsNumberedFault lines fault
numbered_fault lines i least line fault below at h number f = record {
  before = take i lines;
  line = line;
  after = drop (i + 1) lines;
  lines_are = split_at_place lines i line below at;
  good = h.numbered;
  number_is = let len = length-take-le i lines (omega arith) in omega (arith, number, len);
  code_is = numbered_code (take i lines) least line fault.code h f;
}
