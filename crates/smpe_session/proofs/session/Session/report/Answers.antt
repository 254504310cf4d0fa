use Rattle.std.proofs.Common.{◌∙◌, Some, ap, refl, sym, subst}
use Rattle.std.proofs.lemmas.Result.{IfOk-weaker}
use Rattle.terms.specs.Types.{Report}
use Rattle.machine.specs.Outcome.{Ran, NoBoundary, WrongKind, header_of}
use Rattle.machine.specs.Errsysmods.{AreErrsysmods}
use Rattle.machine.specs.Machine.{Performs}
use Rattle.smpe_session.specs.Writing.{IsOutcomeOf, TellsOutcomeOf}
use Rattle.smpe_session.proofs.Leading.{headed, refused}
use Rattle.smpe_session.proofs.Looking.{at_global_zone, report_nowhere, report_global, report_zone}
use Rattle.smpe_session.proofs.session.Session.report.Goals as goal

pub returns-in_default-clause-performs : goal.returns-in_default-clause-performs
returns-in_default-clause-performs c = λ s is inventory date files.
    refused date files Report s c.args.self.now.boundary NoBoundary is.boundary
    (report_nowhere s (sym is.boundary ∙ c.in_default.is))

pub returns-in-Some-get-clause-performs : goal.returns-in-Some-get-clause-performs
returns-in-Some-get-clause-performs c = IfOk-weaker c.errsysmods.result _ _
    (λ outcome told. λ s is inventory date files.
    let at = sym is.boundary ∙ c.in-Some.is in
    let performs = headed date files Report s s (Some c.in-Some.name) (λ h. Ran h told.lines) (sym at)
    (report_zone s date files c.in-Some.name c.in-Some-get.zone.now told.lines at
    (is.zones c.in-Some.name c.in-Some-get.zone.now (sym c.in-Some-get.ensures.value))
    (subst (λ g. AreErrsysmods g c.in-Some-get.zone.now told.lines) is.global told.lines_are)) in
    subst (Performs date files s Report s) (sym told.outcome_is) performs)
    c.errsysmods.ensures

pub returns-in-None-clause-performs : goal.returns-in-None-clause-performs
returns-in-None-clause-performs c = λ s is inventory date files.
    let at = sym is.boundary ∙ c.in-Some.is in
    refused date files Report s c.args.self.now.boundary WrongKind is.boundary
    (report_global s c.in-Some.name inventory at
    (at_global_zone s c.args.self.now c.in-Some.name is at (sym c.in-None.ensures.value)))

-- ---- the header

pub returns-in_default-clause-header : goal.returns-in_default-clause-header
returns-in_default-clause-header c = refl

pub returns-in-Some-get-clause-header : goal.returns-in-Some-get-clause-header
returns-in-Some-get-clause-header c =
    let boundary = c.args.self.now.boundary in
    IfOk-weaker c.errsysmods.result _ (TellsOutcomeOf Report boundary)
    (λ outcome told. subst (IsOutcomeOf Report boundary) (sym told.outcome_is)
    (ap (header_of Report) (sym c.in-Some.is)))
    c.errsysmods.ensures

pub returns-in-None-clause-header : goal.returns-in-None-clause-header
returns-in-None-clause-header c = refl
