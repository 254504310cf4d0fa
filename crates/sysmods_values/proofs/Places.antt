-- Where the first item that passes stands.
use Rattle.std.proofs.Common.{◌≡◌, ◌≤◌, Bool, true, false, List, length, None, Some, is_some}
use Rattle.std.proofs.Common.{refl, sym, ap, ◌∙◌, cond, arith, not, true≢false}
use Rattle.std.specs.Prelude.{position, nat_lt}
use Rattle.std.specs.List.{position_or_len}
use Rattle.std.proofs.lemmas.Bool.{ltb-false}
use Rattle.std.proofs.lemmas.List.Sums.{prefix_len-le-length}

module _ {X : Type 0} (p : X → Bool) (xs : List X) where
  pub place_within : position_or_len p xs ≤ length xs
  place_within = prefix_len-le-length (λ x. not (p x)) xs

  -- where none does, the place is behind all
  pub no_place : position p xs ≡ None → length xs ≡ position_or_len p xs
  no_place none = by (nat_lt (position_or_len p xs) (length xs)) refl
    where
      by : (b : Bool) → nat_lt (position_or_len p xs) (length xs) ≡ b → length xs ≡ position_or_len p xs
      by true e =
          absurd (true≢false (ap is_some (sym (ap (λ b. cond b (Some (position_or_len p xs)) None) e) ∙ none)))
      by false e = omega (arith, place_within, ltb-false (position_or_len p xs) (length xs) e)
