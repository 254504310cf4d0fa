use Rattle.std.proofs.Common.{◌≡◌, ◌∙◌, map, refl, rules, subst, sym}
use Rattle.std.proofs.lemmas.Result.{IfOk-weaker}
use Rattle.terms.specs.Types.{Reject}
use Rattle.machine.specs.Machine.{Perform}
use Rattle.report.specs.Views.{line_view}
use Rattle.store.specs.declared.change.Change.TheVariants as Change
use Rattle.store.specs.Own.{IsRejected}
use Rattle.store.proofs.Keeping.{act_unmoved}
use Rattle.smpe_session.specs.Writing.{AnswersAt, TellsRun}
use Rattle.smpe_session.proofs.AllZones.{alike}
use Rattle.smpe_session.proofs.Leading.{led, refused, stated_in}
use Rattle.smpe_session.proofs.Rejected.{rejected, rejected_here}
use Rattle.smpe_session.proofs.Places.{reject_at}
use Rattle.smpe_session.proofs.Stepping.{performs_since, stopped}
use Rattle.smpe_session.proofs.Using.{nothing, after, answered, handed_on, ran_short, weaker}
use Rattle.smpe_session.proofs.session.Session.reject.Goals as goal

pub returns-in-Some-clause-uses : goal.returns-in-Some-clause-uses
returns-in-Some-clause-uses g c = answered nothing (λ own none. absurd none) (λ s inventory keeps is date files. (
  s,
  refused date files (Reject c.args.ids.now) s c.args.self.now.boundary _ is.boundary
      (sym (c.in-Some.ensures.refused s (sym is.boundary) ∙ reject_at s c.args.ids.now)),
  is,
  keeps,
))

pub returns-in_err-load_all_zones-clause-uses : goal.returns-in_err-load_all_zones-clause-uses
returns-in_err-load_all_zones-clause-uses g c = handed_on c.from_residual.ensures.1 c.in_err-load_all_zones.ensures.uses
    (λ s inventory un is date files. act_unmoved g.S.Store c.args.store.now c.load_all_zones.new.store s
    (Perform date files (Reject c.args.ids.now)) c.in_err-load_all_zones.field-0.0 (un is))

pub returns-in_err-edits-clause-uses : goal.returns-in_err-edits-clause-uses
returns-in_err-edits-clause-uses g c = ran_short c.from_residual-in_err-edits.ensures.1 c.in_ok-load_all_zones.ensures.uses
    (λ s inventory had is date files. stopped g.S.Store c.load_all_zones.new.store s
    (Perform date files (Reject c.args.ids.now)) (had is).1)

pub returns-clause-uses : goal.returns-clause-uses
returns-clause-uses g c =
    let stays : c.match-this.self ≡ record c.load_all_zones.new.self { global = c.reject.new.global } = search rules in
    rw stays (weaker (after c.in_ok-load_all_zones.ensures.uses c.commit_change.ensures.uses)
    (λ change is.
    let own = subst IsRejected (sym is) c.in_ok-edits.ensures.rejects in (
      own,
      IfOk-weaker c.commit_change.result _ (TellsRun change) (λ told same. subst (TellsRun change) (sym same)
          (rejected_here change _ own (c.in_default.ensures.global refl))) c.commit_change.ensures.answer,
    ))
    (λ s inventory both is date files.
    let had = both.0 is in
    let at = c.load_all_zones.new.self in
    let new = c.reject.new.global in
    let rejects = c.in_ok-edits.field-0 in
    let lines = map line_view rejects.lines.items in
    let leads = rejected date files c.args.ids.now s at.global new rejects.edits.items lines
    (sym had.0.session.global) inventory
    (sym (c.in_default.ensures.refused s (sym is.boundary) ∙ reject_at s c.args.ids.now))
    (c.in_ok-edits.ensures.runs s.zones (alike s at inventory c.reject.ensures.names had.0))
    (c.in_ok-edits.ensures.fits new) (c.in_ok-edits.ensures.edits new) in
    performs_since g.S.Store c.args.store.now c.load_all_zones.new.store c.commit_change.new.store s
    c.load_all_zones.ensures.uses.goes.follows _ date files (Reject c.args.ids.now) c.commit_change.result
    (led g.S.Store c.load_all_zones.new.store c.commit_change.new.store date files (Reject c.args.ids.now) s
    c.args.self.now.boundary at (record at { global = new }) rejects.edits.items lines _ is.boundary had.0.session refl
    refl leads (Change.Global (stated_in c.commit_change.ensures.uses) rejects.edits) c.in_ok-edits.ensures.rejects tt
    (leads.fits, leads.makes) c.commit_change.result
    (both.1 had.1 (record s { global = new }) (leads.fits, leads.makes) leads.inventory) refl)))

-- ---- the header

pub returns-in-Some-clause-header : goal.returns-in-Some-clause-header
returns-in-Some-clause-header g c = (refl, refl)

pub returns-clause-header : goal.returns-clause-header
returns-clause-header g c =
    let at = c.load_all_zones.new.self in
    let stays : c.match-this.self ≡ record at { global = c.reject.new.global } = search rules in
    rw stays (IfOk-weaker c.commit_change.result _
    (AnswersAt (Reject c.args.ids.now) c.args.self.now.boundary at.boundary)
    (λ told same. subst (AnswersAt (Reject c.args.ids.now) c.args.self.now.boundary at.boundary) (sym same)
    (refl, c.load_all_zones.ensures.boundary))
    c.commit_change.ensures.answer)
