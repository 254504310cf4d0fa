-- Lists of the same texts.
use Rattle.std.proofs.Common.{◌≡◌, ◌∙◌, ℕ, List, Bor, map, ap, IsTrue, Contains, subst₂}
use Rattle.std.specs.List.{All}
use Rattle.std.proofs.lemmas.List.Elements.{All-contains, All-map}
use Rattle.terms.proofs.Ids.{Contains_from_is_in}
use Rattle.terms.specs.Types.{Text}
use Rattle.terms.specs.Lookups.{is_in}
use Rattle.intake_asked.specs.Said.{AreThese}

pub among : {X : Type 0} (f : X → Text) (ones : List X) (others : List Text)
    → All (λ one. IsTrue (is_in others (f one))) ones
    → (x : Text) → Contains (map f ones) x → Contains others x
among f ones others all x at =
    Contains_from_is_in others x (All-contains (λ x. IsTrue (is_in others x)) (map f ones) x
    (All-map (λ x. IsTrue (is_in others x)) f ones all) at)

-- what is lent of a vector has its texts
pub lent : {xs ys : List (Bor (List ℕ))} {ts : List Text} → xs ≡ ys → map (λ x. x.now) ys ≡ ts
    → map (λ x. x.now) xs ≡ ts
lent e f = ap (map (λ x. x.now)) e ∙ f

-- the same of equal lists
pub turned : {ones same others texts : List Text} → ones ≡ same → others ≡ texts → AreThese ones others
    → AreThese same texts
turned e f are = subst₂ AreThese e f are
