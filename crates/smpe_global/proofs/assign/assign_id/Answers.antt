use Rattle.std.proofs.Common.{◌≡◌, ◌∷◌, [], ◌∙◌, sym, ap, subst, if◌then◌else◌}
use Rattle.terms.specs.Lookups.{sysmod_of}
use Rattle.terms.specs.Global.{assign}
use Rattle.machine.specs.Outcome.{StatusLine, Assigned, Unknown}
use Rattle.machine.specs.Receiving.{place_of}
use Rattle.report.specs.declared.outcome.ReportLine.TheVariants.{Status}
use Rattle.report.specs.Views.{status_view}
use Rattle.smpe_global.specs.Edits.{source_edits}
use Rattle.sysmods.specs.Edits.{StatesThose}
use Rattle.smpe_global.proofs.Sources.{assigned_written, sources_receive, sources_written}
use Rattle.smpe_global.proofs.Stating.{states_assigned}
use Rattle.smpe_global.proofs.assign.assign_id.Goals as goal

pub returns : goal.returns
returns c =
    let g = c.args.global.now in
    let x = c.args.id in
    let source = c.args.source in
    let is = c.in_ok-received.ensures.ok in
    let o = sysmod_of c.assign.new.self x in
    let at : sysmod_of (assign g source x) x ≡ o = ap (λ n. sysmod_of n x) (sym is) in
    let written = assigned_written source g x c.attest.ensures in
    let status = c.assign_status.result in
    record {
      own = source_edits o;
      edits_are = c.in_ok-push_source_edit.ensures.edits;
      lines = Status x c.place_of-place.result status ∷ [];
      lines_are = c.in_ok-push.ensures.items;
      prints = (
        is,
        ap (λ l. l ∷ [])
            (ap (λ p. StatusLine x p (status_view status)) c.place_of-place.ensures
            ∙ ap (StatusLine x (place_of g x)) (c.assign_status.ensures
            ∙ ap (λ b. if b then Assigned source else Unknown) c.in_ok-received.ensures.received)),
      );
      receives = sources_receive o;
      written = sources_written o c.in_ok-push_source_edit.ensures.form;
      stays = subst (λ n. StatesThose n g) (sym is) (states_assigned source g x);
      fits = λ stated states. (written stated o at).0;
      after = λ stated states. (written stated o at).1 ∙ sym is;
    }
