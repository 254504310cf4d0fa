use Rattle.std.proofs.Common.{◌≡◌, ◌+◌, ◌-◌, ℕ, arith, refl, ◌∙◌}
use Rattle.std.proofs.Math.Path.{fun_ext}
use Rattle.terms.specs.Types.{Entry, Sysmod, Id}
use Rattle.terms.specs.Choice.{place}
use Rattle.sysmods.specs.Choices.{number_in}
use Rattle.zones.specs.Picks.{kept_pick, fitting_pick}
use Rattle.zones.proofs.Picking.{picks_rise, numbers_are}
use Rattle.zones.proofs.counting.counting_vers.Goals as goal

pub table_of-kept-requires : goal.table_of-kept-requires
table_of-kept-requires c =
    rw c.in_ok-kept_picks.ensures.picks (picks_rise (λ (e : Entry). e.id) kept_pick (λ e. refl) c.args.zone.now.entries
    c.in_ok-kept_picks.ensures.form.entries)

pub table_of-fitting-requires : goal.table_of-fitting-requires
table_of-fitting-requires c =
    rw c.in_ok-fitting_picks.ensures (picks_rise (λ (s : Sysmod). s.id)
    (fitting_pick c.args.zone.now c.args.candidates.now) (λ s. refl) c.args.global.now.sysmods c.attest.ensures.sysmods)

numbers : (c : goal.After-new) → (x : Id)
    → number_in c.new.result x ≡ place c.args.global.now c.args.zone.now c.args.candidates.now x + 1
numbers c x =
    let kept = c.new.ensures.kept ∙ c.table_of-kept.ensures ∙ c.in_ok-kept_picks.ensures.picks in
    let fitting = c.new.ensures.fitting ∙ c.table_of-fitting.ensures ∙ c.in_ok-fitting_picks.ensures in
    rw (kept, fitting)
    (numbers_are c.args.global.now c.args.zone.now c.args.candidates.now c.attest.ensures
    c.in_ok-kept_picks.ensures.form x)

pub returns-clause-counting : goal.returns-clause-counting
returns-clause-counting c = fun_ext (λ x.
    let number : ℕ = place c.args.global.now c.args.zone.now c.args.candidates.now x in
    let back : number + 1 - 1 ≡ number = omega arith in
    rw (c.new.ensures.global, c.new.ensures.srel, c.srel.ensures, numbers c x, back) refl)

pub returns-clause-numbers : goal.returns-clause-numbers
returns-clause-numbers c = fun_ext (numbers c)
