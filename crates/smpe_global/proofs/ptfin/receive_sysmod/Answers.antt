use Rattle.std.proofs.Common.{◌≡◌, ◌∙◌, ◌++◌, List, Option, None, Result, Ok, Err, Some, OnOk, All, refl, sym, ap}
use Rattle.std.proofs.Common.{subst}
use Rattle.std.specs.Prelude.{is_ok, IfErr, OnErr, option_map, if◌then◌else◌}
use Rattle.std.proofs.lemmas.Option.{same_Some}
use Rattle.std.proofs.lemmas.Result.{on_ok_weaker}
use Rattle.terms.specs.Forms.{IsSource}
use Rattle.terms.specs.Types.{Text, Sysmod, Global}
use Rattle.terms.specs.Global.{IsSysmod, Receives}
use Rattle.machine.specs.Outcome.{OfKind, Received, StatusLine, Status as OutcomeStatus}
use Rattle.machine.specs.Receiving.{sourced, receive_status}
use Rattle.report.specs.declared.outcome.ReportLine.{ReportLine}
use Rattle.report.specs.declared.outcome.ReportLine.TheVariants.{Status}
use Rattle.report.specs.declared.outcome.Place.TheVariants.{Kind}
use Rattle.report.specs.Views.{line_view, status_view}
use Rattle.sysmods.specs.Refused.{IsRefused}
use Rattle.smpe_global.specs.declared.global_change.GlobalChange.{GlobalChange}
use Rattle.smpe_global.specs.Edits.{answer_of, AreEditsOf}
use Rattle.smpe_global.proofs.Sysmods.{refused_by, sysmod_taken, sysmod_refused}
use Rattle.smpe_global.proofs.ptfin.receive_sysmod.Goals.{In_ok-push}
use Rattle.smpe_global.proofs.ptfin.receive_sysmod.Goals as goal

appended : {T E X : Type 0} (r : Result T E) (new old more : List X) → new ≡ (if is_ok r then old ++ more else old)
    → OnOk r (new ≡ old ++ more)
appended (Ok x) new old more is = is
appended (Err e) new old more is = tt

abbrev line : In_ok-push → ReportLine
line c = Status c.sysmod.inside.id (Kind c.sysmod.inside.kind) c.in_ok-receive_status.field-0

-- one more source does not change the line
same_line : (o : Option Text) (s : Sysmod) (status : OutcomeStatus)
    → StatusLine (sourced o s).id (OfKind (sourced o s).kind) status ≡ StatusLine s.id (OfKind s.kind) status
same_line None s status = refl
same_line (Some source) s status = refl

printed : (c : In_ok-push) → line_view (line c)
    ≡ StatusLine c.args.sysmod.id (OfKind c.args.sysmod.kind) (status_view c.in_ok-receive_status.field-0)
printed c =
    let status = status_view c.in_ok-receive_status.field-0 in
    ap (λ (r : Sysmod). StatusLine r.id (OfKind r.kind) status) (c.sysmod.view_is ∙ c.in_ok-sysmod.ensures)
    ∙ same_line c.args.source.now c.args.sysmod status

pub returns-in-Ok : goal.returns-in-Ok
returns-in-Ok c =
    let p = (goal.at.returns-in-Ok c).In_ok-push in
    let now : GlobalChange = record { edits = c.append.new.self; lines = c.push.new.self } in
    let own = c.in_ok-edits.edits.items in
    let g = c.args.global.now in
    let new = c.receive-answer.new.self in
    let sent = sourced c.args.source.now c.args.sysmod in
    let status = status_view c.in_ok-receive_status.field-0 in
    let told : Some Received ≡ Some status =
    subst (λ r. option_map receive_status (answer_of new r) ≡ Some status) c.in-Ok.is (c.in_ok-receive_status.ensures
    new) in
    let came : Receives g sent (Ok new) =
    subst (λ s. Receives g s (Ok new)) c.in_ok-sysmod.ensures
    (subst (λ r. OnOk r (Receives g c.in_ok-sysmod.sysmod (Ok new))) c.in-Ok.is c.receive-answer.ensures.ok) in
    on_ok_weaker c.append.result (λ written.
    sysmod_taken c.args.source.now g new c.args.sysmod (line p) c.args.change.now now c.in_ok-push.ensures.items own
    (subst (λ s. AreEditsOf s own) c.in_ok-sysmod.ensures c.in_ok-edits.ensures) written
    (subst IsSysmod (c.sysmod.view_is ∙ c.in_ok-sysmod.ensures) c.sysmod.invariant)
    (subst (λ (s : Sysmod). All IsSource s.sources) c.in_ok-sysmod.ensures c.attest_sources.ensures) c.requires
    (printed p ∙ ap (StatusLine c.args.sysmod.id (OfKind c.args.sysmod.kind)) (sym (same_Some Received status told)))
    came)
    (appended c.append.result c.append.new.self.items c.args.change.now.edits.items own c.append.ensures.items)

pub returns : goal.returns
returns c =
    let p = (goal.at.returns c).In_ok-push in
    let now : GlobalChange = record { edits = c.args.change.now.edits; lines = c.push.new.self } in
    let g = c.args.global.now in
    let new = c.receive-answer.new.self in
    let sent = sourced c.args.source.now c.args.sysmod in
    let e = c.in-Err.field-0 in
    let status = status_view c.in_ok-receive_status.field-0 in
    let told : option_map receive_status (answer_of new (Err e)) ≡ Some status =
    subst (λ r. option_map receive_status (answer_of new r) ≡ Some status) c.in-Err.is (c.in_ok-receive_status.ensures
    new) in
    let why : IsRefused g sent e =
    subst (λ s. IsRefused g s e) c.in_ok-sysmod.ensures
    (subst (λ r. IfErr r (IsRefused g c.in_ok-sysmod.sysmod)) c.in-Err.is c.receive-answer.ensures.refused) in
    let same : new ≡ g = subst (λ r. OnErr r (new ≡ g)) c.in-Err.is c.receive-answer.ensures.err in
    let by = refused_by g new sent e status why told in
    sysmod_refused c.args.source.now g new c.args.sysmod (line p) c.args.change.now now c.in_ok-push.ensures.items by.0
    refl (printed p ∙ ap (StatusLine c.args.sysmod.id (OfKind c.args.sysmod.kind)) by.2) by.1 same
