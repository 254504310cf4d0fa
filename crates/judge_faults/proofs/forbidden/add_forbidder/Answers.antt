use Rattle.std.proofs.Common.{◌≡◌, ◌∙◌, Contains, ap, sym, subst}
use Rattle.std.specs.Prelude.{is_some}
use Rattle.std.proofs.lemmas.Cmp.{nat_list_cmp_total}
use Rattle.std.proofs.lemmas.Map.Lookups.{exact_bytes}
use Rattle.sorted.specs.MultiMap.{Gains}
use Rattle.sorted.proofs.Gaining.{gains_to_all}
use Rattle.terms.specs.Lookups.{is_function}
use Rattle.terms.specs.Choice.{npre_of}
use Rattle.sysmods.specs.Choices.{choice}
use Rattle.judge_faults.proofs.Forbidders.{C, gains_function}
use Rattle.judge_faults.proofs.forbidden.add_forbidder.Goals as goal

pub returns-in_ok-add_to_all : goal.returns-in_ok-add_to_all
returns-in_ok-add_to_all c =
    let g = c.args.vers.now.global.now in
    let choices = choice c.args.vers.now in
    let old = c.args.forbidders.now in
    let new = c.add_to_all.new.lists in
    gains_function g choices old new c.args.entry.now
    (ap (λ e. is_some e.applied) (sym c.entry.view_is) ∙ sym c.is_some.ensures ∙ c.if-is_some.true)
    (ap (λ e. is_function g e.id) (sym c.entry.view_is)
    ∙ ap (λ h. is_function h c.entry.inside.id) (sym c.global.ensures) ∙ sym c.is_function.ensures
    ∙ c.if-is_function.true)
    (subst (λ i. Gains C old new (λ z y. Contains (npre_of choices i) z × (y ≡ i))) (ap (λ e. e.id) c.entry.view_is)
    (subst (λ l. Gains C old new (λ z y. Contains l z × (y ≡ c.entry.inside.id))) c.npre.ensures
    (gains_to_all C nat_list_cmp_total exact_bytes old new c.npre.result.now c.entry.inside.id
    c.in_ok-add_to_all.ensures)))
