use Rattle.std.proofs.Common.{◌∙◌, map, refl, sym, ap, subst}
use Rattle.std.proofs.lemmas.Result.{IfOk-weaker}
use Rattle.machine.specs.Machine.{Perform}
use Rattle.machine.specs.Outcome.{Refused, header_of}
use Rattle.report.specs.Views.{line_view, header_view, outcome_view, refusal_view}
use Rattle.store.proofs.Keeping.{act_unmoved}
use Rattle.smpe_session.specs.Places.{install_command}
use Rattle.smpe_session.specs.Writing.{TellsOutcomeOf}
use Rattle.smpe_session.proofs.Installed.{install_changes, install_refused, installs_stay}
use Rattle.smpe_session.proofs.Places.{install_at}
use Rattle.smpe_session.proofs.Stepping.{performs_since, stopped}
use Rattle.smpe_session.proofs.Using.{after, answered, handed_on, ran_short, weaker}
use Rattle.smpe.proofs.install.install.Goals as goal

pub returns-in_err-related-clause-uses : goal.returns-in_err-related-clause-uses
returns-in_err-related-clause-uses g c = handed_on c.from_residual.ensures.1 c.in_err-related.ensures.uses
    (λ s inventory un is files.
    act_unmoved g.S.Store c.args.store.now c.load_related_zone.new.store s
    (Perform c.args.date files (install_command c.args.kind c.args.operands.now)) c.in_err-related.field-0.0 (un is))

pub returns-in_err-delta-clause-uses : goal.returns-in_err-delta-clause-uses
returns-in_err-delta-clause-uses g c = ran_short c.from_residual-in_err-delta.ensures.1 c.in_ok-related.ensures.uses
    (λ s inventory sought is files. stopped g.S.Store c.load_related_zone.new.store s
    (Perform c.args.date files (install_command c.args.kind c.args.operands.now)) (sought is).1)

pub returns-in_err-lines-clause-uses : goal.returns-in_err-lines-clause-uses
returns-in_err-lines-clause-uses g c = ran_short c.from_residual-in_err-lines.ensures.1 c.in_ok-related.ensures.uses
    (λ s inventory sought is files. stopped g.S.Store c.load_related_zone.new.store s
    (Perform c.args.date files (install_command c.args.kind c.args.operands.now)) (sought is).1)

pub carry_out-requires-clause-boundary : goal.carry_out-requires-clause-boundary
carry_out-requires-clause-boundary g c = c.install_header-header.ensures.boundary ∙ c.in-Ok.ensures.named

pub carry_out-requires-clause-knows : goal.carry_out-requires-clause-knows
carry_out-requires-clause-knows g c = (c.in-Ok.place.zone.now, c.in_ok-delta.ensures.knows)

pub returns-clause-uses : goal.returns-clause-uses
returns-clause-uses g c = weaker (after c.in_ok-related.ensures.uses c.carry_out.ensures.uses)
    (λ change own.
    (own.0, sym (ap (λ w. w.check) c.operands.view_is) ∙ (sym c.install_header-header.ensures.check ∙ own.1), own.2))
    (λ s inventory both is files.
    let at = c.load_related_zone.new.self in
    let kind = c.args.kind in
    let i = c.args.operands.now in
    let command = install_command kind i in
    let place = c.in-Ok.place in
    let p = c.in_ok-delta.field-0 in
    let sought = both.0 is in
    let there = c.in-Ok.ensures.has s sought.0.session inventory in
    let checks = sym (ap (λ w. w.check) c.operands.view_is) ∙ sym c.install_header-header.ensures.check in
    let changes = install_changes c.args.date kind i s at place.name place.zone.now _ c.operands.inside.selection
    c.operands.inside.bypass p.delta (map line_view p.lines.items) (map line_view c.in_ok-lines.lines.items)
    c.in_ok-delta.ensures.knows sought.0.session there
    (c.zone_at.ensures ∙ sought.0.is_related place.name there.boundary)
    (sym (ap (λ w. w.selection) c.operands.view_is)) (sym (ap (λ w. w.bypass) c.operands.view_is))
    c.apply.ensures.dated c.in_ok-delta.ensures.installs c.in_ok-lines.ensures files
    c.install_header-header.result.check (header_view c.install_header-header.result) checks
    (c.install_header-header.ensures.view i (sym (ap (λ w. w.check) c.operands.view_is))
    ∙ ap (header_of command) sought.0.session.boundary) in
    performs_since g.S.Store c.args.store.now c.load_related_zone.new.store c.carry_out.new.store s
    c.load_related_zone.ensures.uses.goes.follows _ c.args.date files command c.carry_out.result
    (both.1 sought.1 sought.0.session c.args.date files command changes))

pub returns-in-Err-clause-uses : goal.returns-in-Err-clause-uses
returns-in-Err-clause-uses g c = answered c.in_ok-related.ensures.uses (λ own none. absurd none)
    (λ s inventory found is files.
    let i = c.args.operands.now in
    let command = install_command c.args.kind i in
    let sought = found is in (
      s,
      install_refused c.args.date files command s (header_view c.install_header-header.result)
          (refusal_view c.in-Err.refusal)
          (c.install_header-header.ensures.view i (sym (ap (λ w. w.check) c.operands.view_is))
          ∙ ap (header_of command) sought.0.session.boundary)
          (install_at s c.args.kind i ∙ c.in-Err.ensures.has s sought.0.session inventory),
      sought.0.session,
      sought.1,
    ))

-- ---- the header

pub returns-in-Err-clause-header : goal.returns-in-Err-clause-header
returns-in-Err-clause-header g c =
    let stays = c.load_related_zone.ensures.boundary in
    let i = c.args.operands.now in (
      c.install_header-header.ensures.view i (sym (ap (λ w. w.check) c.operands.view_is))
          ∙ ap (header_of (install_command c.args.kind i)) stays,
      stays ∙ sym (installs_stay c.args.kind i
          (Refused (header_view c.install_header-header.result) (refusal_view c.in-Err.refusal))
          c.args.session.now.boundary),
    )

pub returns-clause-header : goal.returns-clause-header
returns-clause-header g c =
    let stays = c.load_related_zone.ensures.boundary in
    let i = c.args.operands.now in
    let command = install_command c.args.kind i in
    IfOk-weaker c.carry_out.result (TellsOutcomeOf command c.load_related_zone.new.self.boundary) _
    (λ outcome of. (
      subst (λ boundary. TellsOutcomeOf command boundary outcome) stays of,
      c.carry_out.ensures.boundary ∙ stays
          ∙ sym (installs_stay c.args.kind i (outcome_view outcome) c.args.session.now.boundary),
    ))
    (c.carry_out.ensures.header command c.load_related_zone.new.self.boundary
    (c.install_header-header.ensures.view i (sym (ap (λ w. w.check) c.operands.view_is))))
