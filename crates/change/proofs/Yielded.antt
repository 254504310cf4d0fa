-- A loop over the items of a list: those that it has yielded, and those that are left.
use Rattle.std.proofs.Common.{◌≡◌, ◌∙◌, ◌+◌, ℕ, List, [], ◌∷◌, ◌++◌, length, append_assoc, append-nil, sym}
use Rattle.std.proofs.Common.{ap, subst, arith}
use Rattle.std.proofs.lemmas.List.{nil_from_length}

module _ {X : Type 0} (yielded left all : List X) (n : ℕ) (both : yielded ++ left ≡ all) (count : n ≡ length left) where
  -- one item more
  module _ (x : X) (rest : List X) (steps : left ≡ x ∷ rest) where
    pub one_more : (yielded ++ x ∷ []) ++ rest ≡ all
    one_more = append_assoc yielded (x ∷ []) rest ∙ subst (λ l. yielded ++ l ≡ all) steps both

    pub one_less : (m : ℕ) → n ≡ m + 1 → m ≡ length rest
    one_less m gone = let short = ap length steps in omega (arith, count, gone, short)

  -- all of them, where none is left
  pub all_yielded : n ≡ 0 → yielded ≡ all
  all_yielded none =
      sym (append-nil yielded)
      ∙ subst (λ l. yielded ++ l ≡ all) (nil_from_length left (sym count ∙ none)) both
