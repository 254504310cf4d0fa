-- Words that are put one after the other, with a blank before each but the first.
use Rattle.std.proofs.Common.{◌≡◌, ◌∙◌, ◌<◌, ◌+◌, ℕ, List, [], ◌∷◌, ◌++◌, length, map, take}
use Rattle.std.proofs.Common.{get_or, sym, ap, ap₂, append_assoc}
use Rattle.std.specs.List.{flat_map, join_with_byte}
use Rattle.std.specs.Prelude.{codes, decimal}
use Rattle.std.proofs.lemmas.List.Folds.{flat_map-map}
use Rattle.machine.specs.Report.{words_line}
use Rattle.terms.proofs.Lists.{joined, flat_next}

-- one word more
pub flat_more : {X : Type 0} (f : X → List ℕ) (xs : List X) (i : ℕ) (x : X) (old mid new : List ℕ) → i < length xs
    → x ≡ get_or xs i x → mid ≡ old ++ flat_map f (take i xs) → new ≡ mid ++ f x
    → new ≡ old ++ flat_map f (take (i + 1) xs)
flat_more f xs i x old mid new below at before more =
    more ∙ ap (λ l. l ++ f x) before ∙ append_assoc old (flat_map f (take i xs)) (f x)
    ∙ ap (λ l. old ++ l) (sym (flat_next f xs i x below at))

-- all of them
pub all_joined : {X : Type 0} (f : X → List ℕ) (first : X) (rest : List X) (old t1 t2 : List ℕ) → t1 ≡ old ++ f first
    → t2 ≡ t1 ++ flat_map (λ w. 32 ∷ f w) rest → t2 ≡ old ++ join_with_byte 32 (map f (first ∷ rest))
all_joined f first rest old t1 t2 begun more =
    more ∙ ap (λ t. t ++ flat_map (λ w. 32 ∷ f w) rest) begun
    ∙ append_assoc old (f first) (flat_map (λ w. 32 ∷ f w) rest)
    ∙ ap (λ t. old ++ (f first ++ t)) (sym (flat_map-map (λ w. 32 ∷ w) f rest))
    ∙ ap (λ t. old ++ t) (joined 32 (f first) (map f rest))

-- the line of the counts, in digits
abbrev counts_line : (sysmods zones entries elements : List ℕ) → List ℕ
counts_line sysmods zones entries elements = words_line (
    codes "VERIFIED" ∷ codes "SYSMODS" ∷ sysmods ∷ codes "ZONES" ∷ zones ∷ codes "ENTRIES" ∷ entries ∷ codes "ELEMENTS"
    ∷ elements ∷ [])

pub counts_told : (old : List ℕ) (sysmods zones entries elements : ℕ) {s z e l : List ℕ} → s ≡ decimal sysmods
    → z ≡ decimal zones → e ≡ decimal entries → l ≡ decimal elements
    → old ++ counts_line s z e l
    ≡ old ++ counts_line (decimal sysmods) (decimal zones) (decimal entries) (decimal elements)
counts_told old sysmods zones entries elements {s = s} {z = z} s_is z_is e_is l_is =
    ap₂ (λ e l. old ++ counts_line s z e l) e_is l_is
    ∙ ap₂ (λ s z. old ++ counts_line s z (decimal entries) (decimal elements)) s_is z_is
