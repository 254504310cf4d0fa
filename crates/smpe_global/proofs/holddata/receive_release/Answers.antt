use Rattle.std.proofs.Common.{◌∷◌, [], ◌∙◌, refl, sym, ap, subst}
use Rattle.terms.specs.Types.{Release, ARelease}
use Rattle.machine.specs.Outcome.{StatusLine, OfHold}
use Rattle.machine.specs.Receiving.{TakesHoldItem, release_status}
use Rattle.sysmods.specs.Faults.{a_release}
use Rattle.report.specs.declared.outcome.ReportLine.TheVariants.{Status}
use Rattle.report.specs.declared.outcome.Place.TheVariants as place
use Rattle.smpe_global.specs.declared.global_change.GlobalChange.{GlobalChange}
use Rattle.smpe_global.specs.Edits.{release_edits}
use Rattle.smpe_global.specs.Taken.{IsTaken}
use Rattle.smpe_global.proofs.Holds.{release_taken}
use Rattle.smpe_global.proofs.holddata.receive_release.Goals as goal

pub returns : goal.returns
returns c =
    let g = c.args.global.now in
    let read = c.release.inside in
    let r : Release = a_release read.id read.kind read.reason read.fmid in
    let answer = c.release-answer.result in
    let new = c.release-answer.new.self in
    let was = c.args.change.now in
    let is : GlobalChange = record { edits = c.push_release_edit.new.edits; lines = c.push.new.self } in
    let done = release_taken g new r answer c.release-answer.ensures.ok c.release-answer.ensures.refused
    c.release-answer.ensures.err in
    subst (λ r. IsTaken (TakesHoldItem g (ARelease r)) g new was is) c.release.view_is
    (record {
      own = release_edits r.id r.kind r.reason answer;
      edits_are = c.in_ok-push_release_edit.ensures;
      lines = Status r.id (place.Hold r.kind) c.release_status.result ∷ [];
      lines_are = c.in_ok-push.ensures.items;
      prints = (
        done.leads,
        ap (λ l. l ∷ []) (ap (StatusLine r.id (OfHold r.kind))
            (c.release_status.ensures new r refl ∙ ap (release_status r) (sym done.answers))),
      );
      receives = done.receives;
      written = done.written;
      stays = done.stays;
      fits = λ stated states. done.fits stated;
      after = λ stated states. done.after stated;
    })
