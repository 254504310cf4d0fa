-- What each item of a list has, and what stands in lists.
use Rattle.std.proofs.Common.{◌≡◌, ◌≤◌, ◌+◌, inl, inr, ℕ, Bool, Some, List, [], ◌∷◌, Contains, find, ap, ◌∙◌, subst}
use Rattle.std.proofs.Common.{arith}
use Rattle.std.specs.List.{AllByRecursion}
use Rattle.std.specs.declared.cmp.Ordering.{Ordering}
use Rattle.std.specs.Ordering.{is_eq}
use Rattle.std.specs.Cmp.{IsTotalOrder}
use Rattle.std.proofs.lemmas.Cmp.{tied_itself}
use Rattle.terms.proofs.ListMembers.{here_or, none_in, parts}
use Rattle.terms.specs.Rising.{Rises}
use Rattle.terms.specs.Types.{Lines}
use Rattle.terms.specs.Texts.{number_of, line_at, IsNumbered}
use Rattle.terms.proofs.RisingLists.{find_there, Splits_around}
use Rattle.terms.proofs.Texts.{Rises as LinesRise, Rises_numbered, line_at_head, line_at_tail}

pub each_alike : {X : Type 0} (P : Type 0) → P → (xs : List X) → AllByRecursion (λ (x : X). P) xs
each_alike P is [] = tt
each_alike P is (x ∷ xs) = (is, each_alike P is xs)

-- An item of a list that rises is what is found at its key.
pub find_itself : {X K : Type 0} {R : K → K → Ordering} → IsTotalOrder R → (key : X → K) (E : K → K → Bool)
    → ((a b : K) → E a b ≡ is_eq (R a b)) → (xs : List X) (x : X) → Rises R key xs → Contains xs x
    → find (λ y. E (key y) (key x)) xs ≡ Some x
find_itself {R = R} o key E ties xs x rises is_in =
    let p = parts xs x is_in in
    let tie = tied_itself o (key x) in
    ap (find (λ y. E (key y) (key x))) p.2
    ∙ find_there o key E ties (key x) p.0 p.1 x
    (Splits_around o key (key x) p.0 p.1 x (subst (Rises R key) p.2 rises) tie) tie

-- So is a record of a numbered text, at its number.
pub line_at_itself : (text : Lines) (line : List ℕ) → IsNumbered text → Contains text line
    → line_at text (number_of line) ≡ Some line
line_at_itself text line numbered = among 0 text (Rises_numbered text numbered)
  where
    above : (least : ℕ) (text : Lines) → LinesRise least text → Contains text line → least ≤ number_of line
    above least [] rises is_in = absurd (none_in line is_in)
    above least (x ∷ xs) rises is_in = elim (here_or x xs line is_in) [
      | inl first ↦ subst (λ l. least ≤ number_of l) first rises.0
      | inr later ↦ let rest = above (number_of x + 1) xs rises.1 later in omega (arith, rest, rises.0)
    ]

    among : (least : ℕ) (text : Lines) → LinesRise least text → Contains text line
        → line_at text (number_of line) ≡ Some line
    among least [] rises is_in = absurd (none_in line is_in)
    among least (x ∷ xs) rises is_in = elim (here_or x xs line is_in) [
      | inl first ↦ subst (λ l. line_at (x ∷ xs) (number_of l) ≡ Some l) first (line_at_head x xs)
      | inr later ↦
          let over = above (number_of x + 1) xs rises.1 later in
          line_at_tail x xs (number_of line) (λ e. omega (arith, e, over)) ∙ among (number_of x + 1) xs rises.1 later
    ]
