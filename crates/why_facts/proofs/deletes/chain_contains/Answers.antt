use Rattle.std.proofs.Common.{◌≡◌, ◌∙◌, Bool, true, false, List, [], ◌∷◌, refl, ap}
use Rattle.std.specs.Prelude.{◌||◌}
use Rattle.std.specs.Str.{bytes_eq}
use Rattle.terms.proofs.TextOrder.{same_back}
use Rattle.terms.specs.Types.{Id}
use Rattle.terms.specs.Lookups.{is_in, meets}
use Rattle.terms.specs.Over.{chain}
use Rattle.sysmods.specs.Choices.{choice}
use Rattle.why_facts.proofs.deletes.chain_contains.Goals as goal

-- a list has one id in common with another that has no more
meets_one : (xs : List Id) (z : Id) → meets xs (z ∷ []) ≡ is_in xs z
meets_one [] z = refl
meets_one (x ∷ xs) z =
    ap (λ b. b || meets xs (z ∷ [])) (or_false (bytes_eq x z) ∙ same_back x z)
    ∙ ap (λ b. bytes_eq z x || b) (meets_one xs z)
  where
    or_false : (b : Bool) → (b || false) ≡ b
    or_false true = refl
    or_false false = refl

pub returns : goal.returns
returns c =
    c.chain_contains_any.ensures
    ∙ meets_one (chain c.args.vers.now.global.now (choice c.args.vers.now) c.args.id) c.args.other
