use Rattle.std.proofs.Common.{◌∙◌, ◌++◌, ◌∷◌, [], ap, sym, subst}
use Rattle.std.proofs.lemmas.List.Elements.{Contains-push}
use Rattle.sysmods.specs.Choices.{choice}
use Rattle.terms.specs.Global.{IsGlobal}
use Rattle.stream.specs.Ordering.{GoesOn}
use Rattle.stream.proofs.FirstVers.{no_loop}
use Rattle.stream.proofs.Placing.{path_goes_on, last_placed, inserted_new}
use Rattle.stream.proofs.order.place_or_go_on.Goals as goal

pub returns-in_ok-push-in-Some-2 : goal.returns-in_ok-push-in-Some-2
returns-in_ok-push-in-Some-2 c =
    let by = choice c.args.vers.now in
    let placed = c.args.placed.now.keys in
    let front = c.args.path.now.items in
    let last = c.args.last in
    let next = c.in-Some.next in
    subst (GoesOn by placed (front ++ last ∷ []) placed)
    (sym (c.in_ok-push-in-Some-2.ensures.items ∙ ap (λ l. l ++ next ∷ []) c.in_ok-push-in-Some.ensures.items))
    (path_goes_on c.args.vers.now placed front last next c.requires
    (sym c.in_ok-next.ensures ∙ c.in-Some.is))

pub returns-in_ok-insert-in-None : goal.returns-in_ok-insert-in-None
returns-in_ok-insert-in-None c =
    let by = choice c.args.vers.now in
    let placed = c.args.placed.now.keys in
    let front = c.args.path.now.items in
    let last = c.args.last in
    let goes_on = last_placed c.args.vers.now (no_loop c.args.vers.now
    (subst IsGlobal c.global.ensures c.attest.ensures).no_loop) placed front last c.requires
    (sym c.in_ok-next.ensures ∙ c.in-None.is) in
    subst (λ l. GoesOn by placed (front ++ last ∷ []) l front)
    (sym (c.in_ok-insert-in-None.ensures.keys
    ∙ inserted_new placed last (c.requires.unplaced last (Contains-push front last)))) goes_on
