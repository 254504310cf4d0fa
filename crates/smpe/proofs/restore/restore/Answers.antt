use Rattle.std.proofs.Common.{◌∙◌, ap, map, refl, sym, subst}
use Rattle.std.proofs.lemmas.Result.{IfOk-weaker}
use Rattle.terms.specs.Types.{Restore}
use Rattle.fields.specs.Choices.{restore_list_of}
use Rattle.machine.specs.Machine.{Perform}
use Rattle.machine.specs.Outcome.{header_of}
use Rattle.report.specs.Views.{line_view, refusal_view}
use Rattle.store.proofs.Keeping.{act_unmoved}
use Rattle.smpe_session.specs.Writing.{TellsOutcomeOf}
use Rattle.smpe_session.proofs.Leading.{refused}
use Rattle.smpe_session.proofs.Places.{restore_at}
use Rattle.smpe_session.proofs.Restored.{beside, not_none, restore_changes}
use Rattle.smpe_session.proofs.Stepping.{performs_since, stopped}
use Rattle.smpe_session.proofs.Using.{after, answered, handed_on, ran_short, weaker}
use Rattle.smpe.proofs.restore.restore.Goals as goal

pub returns-in_err-distribution_name-clause-uses : goal.returns-in_err-distribution_name-clause-uses
returns-in_err-distribution_name-clause-uses g c = handed_on c.from_residual.ensures.1
    c.in_err-distribution_name.ensures.uses
    (λ s inventory un is date files.
    act_unmoved g.S.Store c.args.store.now c.load_distribution_zone.new.store s
    (Perform date files (Restore (restore_list_of c.args.list.now) c.args.check))
    c.in_err-distribution_name.field-0.0 (un is))

pub returns-in-Err-clause-uses : goal.returns-in-Err-clause-uses
returns-in-Err-clause-uses g c = answered c.in_ok-distribution_name.ensures.uses (λ own none. absurd none)
    (λ s inventory found is date files.
    let command = Restore (restore_list_of c.args.list.now) c.args.check in
    let sought = found is in (
      s,
      refused date files command s c.load_distribution_zone.new.self.boundary (refusal_view c.in-Err.refusal)
          sought.0.session.boundary
          (restore_at s (restore_list_of c.args.list.now) c.args.check
          ∙ c.in-Err.ensures.has s sought.0.session inventory),
      sought.0.session,
      sought.1,
    ))

pub returns-in_default-clause-uses : goal.returns-in_default-clause-uses
returns-in_default-clause-uses g c = answered c.in_ok-distribution_name.ensures.uses (λ own none. absurd none)
    (λ s inventory found is date files.
    let has = (found is).0 in
    absurd (not_none s inventory c.load_distribution_zone.new.self c.in_ok-distribution_name.distribution_name has
    c.in-Ok.place.name c.in-Ok.place.zone.now (c.in-Ok.ensures.has s has.session inventory) (sym c.in_default.ensures)))

pub returns-in_err-delta-clause-uses : goal.returns-in_err-delta-clause-uses
returns-in_err-delta-clause-uses g c = ran_short c.from_residual-in_err-delta.ensures.1
    c.in_ok-distribution_name.ensures.uses
    (λ s inventory sought is date files. stopped g.S.Store c.load_distribution_zone.new.store s
    (Perform date files (Restore (restore_list_of c.args.list.now) c.args.check)) (sought is).1)

pub carry_out-requires-clause-boundary : goal.carry_out-requires-clause-boundary
carry_out-requires-clause-boundary g c = c.in-Ok.ensures.named

pub carry_out-requires-clause-knows : goal.carry_out-requires-clause-knows
carry_out-requires-clause-knows g c = (c.in-Ok.place.zone.now, c.in_ok-delta.ensures.knows)

pub returns-clause-uses : goal.returns-clause-uses
returns-clause-uses g c = weaker (after c.in_ok-distribution_name.ensures.uses c.carry_out.ensures.uses) (λ change own. own)
    (λ s inventory both is date files.
    let at = c.load_distribution_zone.new.self in
    let what = restore_list_of c.args.list.now in
    let command = Restore what c.args.check in
    let place = c.in-Ok.place in
    let accepted = c.in-Some.distribution.now in
    let p = c.in_ok-delta.field-0 in
    let sought = both.0 is in
    let there = c.in-Ok.ensures.has s sought.0.session inventory in
    let related = sym (beside s inventory at c.in_ok-distribution_name.distribution_name sought.0 place.name
    place.zone.now there)
    ∙ sym c.in-Some.ensures in
    let changes = restore_changes s at place.name place.zone.now accepted what p.delta (map line_view p.lines.items)
    c.in_ok-delta.ensures.knows sought.0.session there related c.in_ok-delta.ensures.restores date files c.args.check
    at.boundary
    sought.0.session.boundary in
    performs_since g.S.Store c.args.store.now c.load_distribution_zone.new.store c.carry_out.new.store s
    c.load_distribution_zone.ensures.uses.goes.follows _ date files command c.carry_out.result
    (both.1 sought.1 sought.0.session date files command changes))

-- ---- the header

pub returns-in-Err-clause-header : goal.returns-in-Err-clause-header
returns-in-Err-clause-header g c =
    let stays = c.load_distribution_zone.ensures.boundary in
    (ap (header_of (Restore (restore_list_of c.args.list.now) c.args.check)) stays, stays)

pub returns-in_default-clause-header : goal.returns-in_default-clause-header
returns-in_default-clause-header g c =
    let stays = c.load_distribution_zone.ensures.boundary in
    (ap (header_of (Restore (restore_list_of c.args.list.now) c.args.check)) stays, stays)

pub returns-clause-header : goal.returns-clause-header
returns-clause-header g c =
    let stays = c.load_distribution_zone.ensures.boundary in
    let command = Restore (restore_list_of c.args.list.now) c.args.check in
    IfOk-weaker c.carry_out.result (TellsOutcomeOf command c.load_distribution_zone.new.self.boundary) _
    (λ outcome of. (
      subst (λ boundary. TellsOutcomeOf command boundary outcome) stays of,
      c.carry_out.ensures.boundary ∙ stays,
    ))
    (c.carry_out.ensures.header command c.load_distribution_zone.new.self.boundary refl)
