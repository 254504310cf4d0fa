use Rattle.std.proofs.Common.{◌≡◌, ◌∙◌, ap, map, refl, rules, subst, sym}
use Rattle.std.proofs.lemmas.Result.{IfOk-weaker}
use Rattle.terms.specs.Types.{Receive}
use Rattle.machine.specs.Machine.{Perform}
use Rattle.mcs.specs.Files.{items}
use Rattle.mcs.specs.HoldItems.{items as hold_items}
use Rattle.report.specs.Views.{line_view}
use Rattle.store.specs.declared.change.Change.TheVariants as Change
use Rattle.store.specs.Own.{IsReceived}
use Rattle.smpe_session.specs.Writing.{AnswersAt, TellsRun}
use Rattle.smpe_session.proofs.Leading.{led, refused, stated_in}
use Rattle.smpe_session.proofs.Places.{receive_at}
use Rattle.smpe_session.proofs.Received.{each_of_ptfin, each_of_hold_file, received, received_here}
use Rattle.smpe_session.proofs.Received.{take_faulty}
use Rattle.smpe_session.proofs.Stepping.{stopped}
use Rattle.smpe_session.proofs.Using.{nothing, answered, ran_short, weaker}
use Rattle.smpe_session.proofs.session.Session.receive.Goals as goal

pub returns-in-Some-clause-uses : goal.returns-in-Some-clause-uses
returns-in-Some-clause-uses g c = answered nothing (λ own none. absurd none) (λ s inventory keeps is date. (
  s,
  refused date c.args.files.now (Receive c.args.what.now) s c.args.self.now.boundary _ is.boundary
      (sym (c.in-Some.ensures.refused s (sym is.boundary) ∙ receive_at s c.args.what.now)),
  is,
  keeps,
))

pub returns-in_err-found-clause-uses : goal.returns-in_err-found-clause-uses
returns-in_err-found-clause-uses g c = ran_short c.from_residual.ensures.1 nothing (λ s inventory keeps is date.
    stopped g.S.Store c.args.store.now s (Perform date c.args.files.now (Receive c.args.what.now)) keeps)

pub returns-in-Err-clause-uses : goal.returns-in-Err-clause-uses
returns-in-Err-clause-uses g c = answered nothing (λ own none. absurd none) (λ s inventory keeps is date. (
  s,
  take_faulty date c.args.files.now c.args.what.now s c.args.self.now.boundary c.in-Err.refusal is.boundary
      (sym (c.in_default.ensures.refused s (sym is.boundary) ∙ receive_at s c.args.what.now))
      (rw c.in-Err.is at c.in_ok-found.ensures),
  is,
  keeps,
))

pub receive_found_items-requires-clause-items : goal.receive_found_items-requires-clause-items
receive_found_items-requires-clause-items g c = each_of_ptfin c.args.what.now.sysmods c.args.files.now.ptfin
    (items c.in-Ok.found.items.items) (rw c.in-Ok.is at c.in_ok-found.ensures).0

pub receive_found_items-requires-clause-holds : goal.receive_found_items-requires-clause-holds
receive_found_items-requires-clause-holds g c = each_of_hold_file c.args.what.now.holddata c.args.files.now.holds
    (hold_items c.in-Ok.found.holds.items) (rw c.in-Ok.is at c.in_ok-found.ensures).1

pub returns-in_err-edits-clause-uses : goal.returns-in_err-edits-clause-uses
returns-in_err-edits-clause-uses g c = ran_short c.from_residual-in_err-edits.ensures.1 nothing
    (λ s inventory keeps is date.
    stopped g.S.Store c.args.store.now s (Perform date c.args.files.now (Receive c.args.what.now)) keeps)

pub returns-in_err-lines-clause-uses : goal.returns-in_err-lines-clause-uses
returns-in_err-lines-clause-uses g c = ran_short c.from_residual-in_err-lines.ensures.1 nothing
    (λ s inventory keeps is date.
    stopped g.S.Store c.args.store.now s (Perform date c.args.files.now (Receive c.args.what.now)) keeps)

pub returns-clause-uses : goal.returns-clause-uses
returns-clause-uses g c =
    let stays : c.match-this.self ≡ record c.args.self.now { global = c.receive_found_items.new.global } =
    search rules in
    rw stays (weaker c.commit_change.ensures.uses
    (λ change is.
    let taken = c.in_ok-edits.ensures.taken in
    let own = subst IsReceived (sym is) (taken.receives, taken.written) in (
      own,
      IfOk-weaker c.commit_change.result _ (TellsRun change) (λ told same. subst (TellsRun change) (sym same)
          (received_here change _ own (c.in_default.ensures.global refl))) c.commit_change.ensures.answer,
    ))
    (λ s inventory ended is date.
    let files = c.args.files.now in
    let what = c.args.what.now in
    let at = c.args.self.now in
    let new = c.receive_found_items.new.global in
    let found = rw c.in-Ok.is at c.in_ok-found.ensures in
    let taken = c.in_ok-edits.field-0 in
    let lines = map line_view c.in_ok-lines.lines.items in
    let leads = received date files what s at.global new c.what.inside.source (items c.in-Ok.found.items.items)
    (hold_items c.in-Ok.found.holds.items) taken.edits.items (map line_view taken.lines.items) lines (sym is.global)
    inventory (sym (c.in_default.ensures.refused s (sym is.boundary) ∙ receive_at s what))
    (sym (ap (λ w. w.source) c.what.view_is)) c.receive_found_items.ensures.form found.0 found.1
    c.in_ok-edits.ensures.taken
    c.in_ok-lines.ensures in
    led g.S.Store c.args.store.now c.commit_change.new.store date files (Receive what) s at.boundary at
    (record at { global = new }) taken.edits.items lines _ is.boundary is refl refl leads
    (Change.Global (stated_in c.commit_change.ensures.uses) taken.edits)
    (c.in_ok-edits.ensures.taken.receives, c.in_ok-edits.ensures.taken.written) tt
    (leads.fits, leads.makes) c.commit_change.result
    (ended (record s { global = new }) (leads.fits, leads.makes) leads.inventory) refl))

-- ---- the header

pub returns-in-Some-clause-header : goal.returns-in-Some-clause-header
returns-in-Some-clause-header g c = (refl, refl)

pub returns-in-Err-clause-header : goal.returns-in-Err-clause-header
returns-in-Err-clause-header g c = (refl, refl)

pub returns-clause-header : goal.returns-clause-header
returns-clause-header g c =
    let boundary = c.args.self.now.boundary in
    let stays : c.match-this.self ≡ record c.args.self.now { global = c.receive_found_items.new.global } =
    search rules in
    rw stays (IfOk-weaker c.commit_change.result _ (AnswersAt (Receive c.args.what.now) boundary boundary)
    (λ told same. subst (AnswersAt (Receive c.args.what.now) boundary boundary) (sym same) (refl, refl))
    c.commit_change.ensures.answer)
