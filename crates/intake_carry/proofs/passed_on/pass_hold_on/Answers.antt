use Rattle.std.proofs.Common.{◌≡◌, ◌∙◌, List, true, sym, ap, refl, subst}
use Rattle.std.specs.Prelude.{IsTrue}
use Rattle.terms.specs.declared.kinds.HoldKind.TheVariants.{System}
use Rattle.terms.specs.Types.{Ver, Hold}
use Rattle.intake_carry.specs.PassedOn.{is_passed_on}
use Rattle.intake_carry.proofs.Passing.{passed_system, fixcat_not_passed, on_it, passes_none, passes_one}
use Rattle.intake_carry.proofs.passed_on.pass_hold_on.Goals as goal

pub returns-then-not-is_passed_on : goal.returns-then-not-is_passed_on
returns-then-not-is_passed_on c =
    passes_none c.args.stated.now c.args.sysmod.now
    (ap (λ (vs : List Ver). is_passed_on vs c.args.stated.now) (sym c.vers_of.ensures)
    ∙ sym c.is_passed_on.ensures ∙ c.if-not-is_passed_on.true)

pub returns-in_default : goal.returns-in_default
returns-in_default c =
    passes_none c.args.stated.now c.args.sysmod.now
    (fixcat_not_passed c.args.sysmod.now.vers c.args.stated.now (rw c.in_default.is at c.in_ok-carried.ensures.none))

pub push_hold-requires : goal.push_hold-requires
push_hold-requires c =
    let is = rw c.in-Some.is at c.in_ok-carried.ensures.some in
    let passed : is_passed_on c.vers_of.result.now c.args.stated.now ≡ true =
    sym c.is_passed_on.ensures ∙ c.if-not-is_passed_on.false in
    let put = c.as_hold_on.ensures ∙ ap (λ i. on_it i c.in-Some.carried) c.id_of-id.ensures in
    subst (λ (h : Hold). IsTrue h.internal × (h.kind ≡ System) × (h.id ≡ c.args.sysmod.now.id)) (sym put) (
      refl,
      passed_system c.vers_of.result.now c.args.stated.now c.in-Some.carried is passed,
      refl,
    )

pub returns : goal.returns
returns c =
    let is = rw c.in-Some.is at c.in_ok-carried.ensures.some in
    passes_one c.args.stated.now c.in-Some.carried c.as_hold_on.result c.args.sysmod.now c.push_hold.new.self is
    (ap (λ (vs : List Ver). is_passed_on vs c.args.stated.now) (sym c.vers_of.ensures)
    ∙ sym c.is_passed_on.ensures ∙ c.if-not-is_passed_on.false)
    (c.as_hold_on.ensures ∙ ap (λ i. on_it i c.in-Some.carried) c.id_of-id.ensures) c.in_ok-push_hold.ensures.ok
