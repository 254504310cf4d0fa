use Rattle.std.proofs.Common.{◌≡◌, false, [], rules, tests, sym, subst}
use Rattle.std.proofs.lemmas.Bool.{eqb-true}
use Rattle.std.proofs.lemmas.Iterator.Consumers.{YieldsList-from_first}
use Rattle.std.proofs.lemmas.Iterator.Search.{any_from_yields_List}
use Rattle.std.proofs.lemmas.List.{nil_from_length}
use Rattle.terms.specs.Lookups.{is_in, meets}
use Rattle.terms.specs.Over.{chain}
use Rattle.sysmods.specs.Choices.{choice}
use Rattle.sysmods.proofs.NoneMet.{none_met}
use Rattle.sysmods.proofs.ver_choice.VerChoice.chain_contains_any.Goals as goal

pub returns-then-is_empty : goal.returns-then-is_empty
returns-then-is_empty c =
    let none : c.args.ids.now ≡ [] = nil_from_length _ (eqb-true _ _ (sym c.if-is_empty.ensures)) in
    let ids = chain c.args.self.now.global.now (choice c.args.self.now) c.args.id in
    subst (λ l. false ≡ meets ids l) (sym none) (none_met ids)

pub returns : goal.returns
returns c =
    any_from_yields_List (λ x. is_in c.args.ids.now x) _ _ _ c.any.ensures.ran
    (YieldsList-from_first (λ x. x) (λ s. s) _ c.chain.ensures) (λ x b q k. search (rules, tests))
