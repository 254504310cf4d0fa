use Rattle.std.proofs.Common.{◌≡◌, ◌∙◌, ◌-◌, [], ap, filter, length, rules, sym, tests}
use Rattle.std.specs.Prelude.{IfOk}
use Rattle.std.specs.Option.{option_map_or}
use Rattle.std.proofs.lemmas.Iterator.{YieldsList-from_slice, items_from_collect}
use Rattle.std.proofs.lemmas.Iterator.Consumers.{YieldsList-at, YieldsList-from_copied, YieldsList-from_filter}
use Rattle.std.proofs.lemmas.Result.{IfOk-weaker}
use Rattle.terms.proofs.Places.{contains_at}
use Rattle.sysmods.specs.Choices.{choice}
use Rattle.judge_needs.proofs.Closing.{enough_are, is_asked}
use Rattle.judge_needs.proofs.superseded.sufficient_ids.Goals as goal

pub returns : goal.returns
returns c =
    let named = c.args.named.now in
    let highest = c.in-Some.highest.now in
    let made : IfOk c.collect.result (λ some. some.items ≡ filter (is_asked highest c.in-Some-ver.ver.now.sup) named) =
    items_from_collect _ c.collect.ensures.ran (YieldsList-from_copied (YieldsList-at c.copied.ensures.source
    (YieldsList-from_filter _ (is_asked highest c.in-Some-ver.ver.now.sup) (YieldsList-from_slice named cc)
    c.filter.ensures.closure (λ x b q k. search (rules, tests))))) in
    IfOk-weaker c.collect.result _ _
    (λ some is. enough_are (choice c.args.vers.now) highest named some.items
    (contains_at named (length named - 1) highest (sym c.in-Some.ensures.value))
    (is ∙ ap (λ v. filter (is_asked highest (option_map_or (λ v. v.sup) v [])) named) c.in-Some-ver.ensures)) made
