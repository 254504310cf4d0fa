-- A longest front of a list is determined.
use Rattle.std.proofs.Common.{◌≡◌, List, [], ◌∷◌, ◌++◌, refl, subst}
use Rattle.std.specs.List.{All}
use Rattle.std.proofs.lemmas.List.Elements.{All-head, All-tail}

-- nothing, or an element first of which the property does not hold
abbrev pub StartsWithout : {X : Type 0} → (X → Type 0) → List X → Type 0
StartsWithout P [] = Unit {0}
StartsWithout P (x ∷ xs) = P x → ⊥

pub longest_only : {X : Type 0} (P : X → Type 0) (front back front' back' : List X) → front ++ back ≡ front' ++ back'
    → All P front → StartsWithout P back → All P front' → StartsWithout P back' → (front ≡ front') × (back ≡ back')
longest_only P [] back [] back' e each stops each' stops' = (refl, e)
longest_only P [] [] (y ∷ front') back' e each stops each' stops' = absurd (cc (e))
longest_only P [] (x ∷ back) (y ∷ front') back' e each stops each' stops' =
    let same : y ≡ x = cc (e) in
    absurd (stops (subst P same (All-head P y front' each')))
longest_only P (x ∷ front) back [] [] e each stops each' stops' = absurd (cc (e))
longest_only P (x ∷ front) back [] (y ∷ back') e each stops each' stops' =
    let same : x ≡ y = cc (e) in
    absurd (stops' (subst P same (All-head P x front each)))
longest_only P (x ∷ front) back (y ∷ front') back' e each stops each' stops' =
    let more = longest_only P front back front' back' (cc (e)) (All-tail P x front each) stops
    (All-tail P y front' each') stops' in
    let same : x ≡ y = cc (e) in
    (cc (same, more.0), more.1)
