use Rattle.std.proofs.Common.{◌≡◌, ◌∙◌, [], map, subst, ap, sym, Err, IfErr}
use Rattle.std.proofs.lemmas.Result.{IfOk-weaker, IfErr-weaker, err_from_is_err_and}
use Rattle.std.specs.String.{string_bytes}
use Rattle.clap.specs.Words.{HasKind, app_of, fault_of, matches_of}
use Rattle.intake_words.specs.Asking.{IsRefused}
use Rattle.intake_words.specs.Values.{HasOptions}
use Rattle.intake_words.proofs.Shapes.{free, simple, refused_by_clap, own_refused}
use Rattle.intake_words.proofs.options.read_options.Goals as goal

pub returns-in_err-texts-clause-err : goal.returns-in_err-texts-clause-err
returns-in_err-texts-clause-err c =
    let words = map (λ word. word.items) c.args.words.now in
    let failed = err_from_is_err_and c.from_residual.result c.from_residual.ensures.1 in
    subst (λ r. IfErr r (IsRefused words)) (sym (failed.1 ∙ ap (λ e. Err e) failed.2))
    (own_refused words _ c.in_err-texts.ensures.err)

pub returns-in_err-matches-clause-err : goal.returns-in_err-matches-clause-err
returns-in_err-matches-clause-err c =
    let failed = err_from_is_err_and c.from_residual-in_err-matches.result c.from_residual-in_err-matches.ensures.1 in
    let line = c.in_ok-command_line.ensures in
    let read = ap (map (λ v. v.now)) c.as_slice-2.ensures.value ∙ c.in_ok-views.ensures
    ∙ ap (map string_bytes) c.as_slice.ensures.value ∙ c.in_ok-texts.ensures.ok in
    rw failed.1 (refused_by_clap _ _ line c.in_err-matches.field-0.0 failed.0
    (subst (λ words. HasKind (fault_of (app_of c.in_ok-command_line.field-0) words) c.in_err-matches.field-0.0) read
    (c.in_err-matches.ensures.kinds (free _ line))) failed.2)

pub returns-clause-ok : goal.returns-clause-ok
returns-clause-ok c =
    let line = c.in_ok-command_line.ensures in
    let app = app_of c.in_ok-command_line.field-0 in
    let read = ap (map (λ v. v.now)) c.as_slice-2.ensures.value ∙ c.in_ok-views.ensures
    ∙ ap (map string_bytes) c.as_slice.ensures.value ∙ c.in_ok-texts.ensures.ok in
    IfOk-weaker c.options_of_matches.result _ _
    (λ asked has. (
      app,
      line,
      subst (λ words. fault_of app words ≡ []) read (c.in_ok-matches.ensures.kinds (free _ line)),
      subst (λ rows. HasOptions rows asked)
          ((c.in_ok-matches.ensures.matches (simple _ line)).0 ∙ ap (matches_of app) read) has,
    )) c.options_of_matches.ensures.ok

pub returns-clause-err : goal.returns-clause-err
returns-clause-err c =
    IfErr-weaker c.options_of_matches.result _ _
    (λ fault own. own_refused (map (λ word. word.items) c.args.words.now) fault own)
    c.options_of_matches.ensures.err
