use Rattle.std.proofs.Common.{◌≡◌, false, List, [], ◌∷◌, refl, rules, tests, sym, subst}
use Rattle.std.proofs.lemmas.Iterator.Consumers.{YieldsList-from_first}
use Rattle.std.proofs.lemmas.Iterator.Search.{any_from_yields_List}
use Rattle.terms.specs.Types.{Id}
use Rattle.terms.specs.Lookups.{is_in, meets}
use Rattle.terms.specs.Over.{chain}
use Rattle.sysmods.specs.Choices.{choice}
use Rattle.judge_faults.proofs.deleted.is_deleted.Goals as goal

none_met : (xs : List Id) → false ≡ meets xs []
none_met [] = refl
none_met (x ∷ xs) = none_met xs

pub returns-then-is_empty : goal.returns-then-is_empty
returns-then-is_empty c =
    let none : c.args.dels.now ≡ [] = c.is_empty.ensures.0 c.if-is_empty.true in
    let ids = chain c.args.vers.now.global.now (choice c.args.vers.now) c.args.id in
    subst (λ l. false ≡ meets ids l) (sym none) (none_met ids)

pub returns : goal.returns
returns c =
    any_from_yields_List (λ x. is_in c.args.dels.now x) _ _ _ c.any.ensures.ran
    (YieldsList-from_first (λ x. x) (λ s. s) _ c.chain.ensures) (λ x b q k. search (rules, tests))
