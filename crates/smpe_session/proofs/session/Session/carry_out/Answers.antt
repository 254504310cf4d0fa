use Rattle.std.proofs.Common.{◌≡◌, ◌∙◌, None, Some, Ok, map, refl, subst, sym, rules}
use Rattle.std.specs.Prelude.{IsSome}
use Rattle.std.proofs.lemmas.Result.{IfOk-weaker}
use Rattle.std.specs.Str.{bytes_eq}
use Rattle.indexmap.specs.IndexMap.{get}
use Rattle.machine.specs.Machine.{Perform}
use Rattle.machine.specs.Outcome.{Ran}
use Rattle.report.specs.declared.outcome.Outcome.TheVariants as report
use Rattle.report.specs.Views.{line_view, header_view}
use Rattle.store.specs.declared.change.Change.{Change}
use Rattle.terms.specs.Types.{Zone}
use Rattle.zones_maps.specs.Changed.{delta_of}
use Rattle.zones_maps.specs.Delta.{IsEdited}
use Rattle.store.specs.Own.{IsOfZone}
use Rattle.smpe_session.specs.Writing.{IsAtBoundary, TellsOutcomeOf, TellsRun}
use Rattle.smpe_session.proofs.CarriedOut.{checks, fails, carries}
use Rattle.smpe_session.proofs.Installed.{install_session}
use Rattle.smpe_session.proofs.Stepping.{stopped}
use Rattle.smpe_session.proofs.Using.{nothing, answered, handed, ran_short, no_answer, weaker}
use Rattle.smpe_session.proofs.session.Session.carry_out.Goals as goal

pub returns-then-header-clause-uses : goal.returns-then-header-clause-uses
returns-then-header-clause-uses g c = answered nothing (λ own none. absurd none)
    (λ s inventory keeps is date files command planned. (
      s,
      checks date files command s c.args.self.now c.args.change.name c.args.change.delta c.args.header.check
          (Ran (header_view c.args.header) (map line_view c.args.lines.items)) planned inventory c.attest.ensures
          c.if-header.true,
      is,
      keeps,
    ))

pub returns-in_default-clause-uses : goal.returns-in_default-clause-uses
returns-in_default-clause-uses g c =
    let none : get bytes_eq c.args.self.now.zones c.args.change.name ≡ None = search rules in
    weaker c.commit_change.ensures.uses
    (λ own is. (
      subst IsOfZone (sym is) (c.requires.knows.0, c.attest.ensures, c.requires.knows.1),
      c.if-header.false,
      IfOk-weaker c.commit_change.result (λ given. given ≡ report.Ran c.args.header c.args.lines) (TellsRun own)
          (λ given same. subst (TellsRun own) (sym same)
          (subst (λ (change : Change). IsAtBoundary change (header_view c.args.header)) (sym is) c.requires.boundary))
          c.commit_change.ensures.answer,
    ))
    (λ s inventory ended is date files command planned. absurd (cc (sym none ∙ planned.has)))

pub returns-in_err-prepared-clause-uses : goal.returns-in_err-prepared-clause-uses
returns-in_err-prepared-clause-uses g c = ran_short c.from_residual.ensures.1 nothing
    (λ s inventory keeps is date files command planned. stopped g.S.Store c.args.store.now s
    (Perform date files command) keeps)

pub returns-in_err-outcome-clause-uses : goal.returns-in_err-outcome-clause-uses
returns-in_err-outcome-clause-uses g c = handed c.from_residual-in_err-outcome.ensures.1 c.in_err-outcome.ensures.uses
    (λ own is. (
      subst IsOfZone (sym is) (c.requires.knows.0, c.attest.ensures, c.requires.knows.1),
      c.if-header.false,
      no_answer c.from_residual-in_err-outcome.result _ _ c.from_residual-in_err-outcome.ensures.1,
    ))
    (λ s inventory ended is date files command planned.
    fails date files command s c.args.self.now c.args.change.name c.args.change.delta c.args.header.check
    (Ran (header_view c.args.header) (map line_view c.args.lines.items)) planned inventory c.if-header.false
    g.S.Store c.args.store.now c.commit_change-2.new.store
    (report.Ran c.args.header c.args.lines) refl
    (record c.args.self.now { zones = c.get_mut.follows.lender c.in-Some.zone.now }) c.attest.ensures
    c.in_err-outcome.field-0.0 ended)

pub returns-clause-uses : goal.returns-clause-uses
returns-clause-uses g c = answered c.in_ok-outcome.ensures.uses
    (λ own is. (
      subst IsOfZone (sym is) (c.requires.knows.0, c.attest.ensures, c.requires.knows.1),
      c.if-header.false,
      subst (TellsRun own) (sym c.in_ok-outcome.ensures.answer)
          (subst (λ (change : Change). IsAtBoundary change (header_view c.args.header)) (sym is) c.requires.boundary),
    ))
    (λ s inventory ended is date files command planned.
    let name = c.args.change.name in
    let new = c.edit.new.self in
    let session = record c.args.self.now { zones = c.get_mut.follows.lender new } in
    let here : get bytes_eq c.args.self.now.zones name ≡ Some c.in-Some.zone.now = sym c.in-Some.ensures.value in
    let both : Some c.in-Some.zone.now ≡ Some planned.zone = sym here ∙ planned.has in
    let same : c.in-Some.zone.now ≡ planned.zone = cc both in
    let changed = subst (λ edits. IsEdited edits planned.zone new) c.in_ok-prepared.ensures.is_delta
    (subst (λ (zone : Zone). IsEdited (delta_of c.in_ok-prepared.prepared) zone new) same c.edit.ensures) in
    carries date files command s c.args.self.now name c.args.change.delta c.args.header.check
    (Ran (header_view c.args.header) (map line_view c.args.lines.items)) planned inventory c.if-header.false
    g.S.Store c.args.store.now c.commit_change-2.new.store
    (report.Ran c.args.header c.args.lines) refl session new changed c.attest.ensures
    (install_session s name planned.zone new inventory planned.is_there c.args.self.now session is refl refl
    ((c.get_mut.follows.holds new).3 (subst IsSome (sym here) refl)))
    (Ok c.in_ok-outcome.outcome) ended)

-- ---- the header

pub returns-then-header-clause-header : goal.returns-then-header-clause-header
returns-then-header-clause-header g c = λ command boundary is. is

pub returns-in_default-clause-header : goal.returns-in_default-clause-header
returns-in_default-clause-header g c = λ command boundary is.
    IfOk-weaker c.commit_change.result (λ given. given ≡ report.Ran c.args.header c.args.lines)
    (TellsOutcomeOf command boundary) (λ given same. subst (TellsOutcomeOf command boundary) (sym same) is)
    c.commit_change.ensures.answer

pub returns-in_err-prepared-clause-header : goal.returns-in_err-prepared-clause-header
returns-in_err-prepared-clause-header g c = λ command boundary is.
    no_answer c.from_residual.result _ _ c.from_residual.ensures.1

pub returns-in_err-outcome-clause-header : goal.returns-in_err-outcome-clause-header
returns-in_err-outcome-clause-header g c = λ command boundary is.
    no_answer c.from_residual-in_err-outcome.result _ _ c.from_residual-in_err-outcome.ensures.1

pub returns-clause-header : goal.returns-clause-header
returns-clause-header g c = λ command boundary is.
    subst (TellsOutcomeOf command boundary) (sym c.in_ok-outcome.ensures.answer) is
