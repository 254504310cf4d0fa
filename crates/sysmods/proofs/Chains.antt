-- The chain of an id, one id after another.
use Rattle.std.proofs.Common.{◌≡◌, ◌≤◌, ◌-◌, ◌∙◌, ℕ, zero, suc, ◌∷◌, ap, sym, arith, Option, Some}
use Rattle.terms.specs.Types.{Id}
use Rattle.terms.specs.Choice.{Choice, fmid_of}
use Rattle.terms.specs.Over.{chain_from}

pub chain_first : (n : ℕ) (c : Choice) (o : Option Id) (x : Id) → 1 ≤ n → o ≡ Some x
    → chain_from n c o ≡ x ∷ chain_from (n - 1) c (fmid_of c x)
chain_first zero c o x some is = absurd (omega (arith, some))
chain_first (suc n) c o x some is =
    let less : suc n - 1 ≡ n = omega arith in
    ap (chain_from (suc n) c) is ∙ ap (λ m. x ∷ chain_from m c (fmid_of c x)) (sym less)
