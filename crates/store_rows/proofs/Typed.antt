-- Keys of texts, by their length.
use Rattle.std.proofs.Common.{◌≡◌, ℕ, length, List, [], ◌∷◌, sym, subst}
use Rattle.sqlite.specs.declared.types.Value.TheVariants.{Text}
use Rattle.sqlite.specs.Order.{Row}
use Rattle.store_rows.specs.Texts.{AreTexts}

pub none_typed : (P : Row → Type 0) → P [] → (key : Row) → AreTexts key → length key ≡ 0 → P key
none_typed P h [] texts wide = h
none_typed P h (v ∷ key) texts wide = absurd cc

pub one_typed : (P : Row → Type 0) → ((t : List ℕ) → P (Text t ∷ [])) → (key : Row) → AreTexts key → length key ≡ 1
    → P key
one_typed P h [] texts wide = absurd cc
one_typed P h (v ∷ []) texts wide = subst (λ w. P (w ∷ [])) (sym texts.0.1) (h texts.0.0)
one_typed P h (v ∷ w ∷ key) texts wide = absurd cc
