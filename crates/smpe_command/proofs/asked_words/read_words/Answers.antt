use Rattle.std.proofs.Common.{◌≡◌, Err, IfErr, map, inr, sym, ap, subst, ◌∙◌, rules}
use Rattle.std.proofs.lemmas.Result.{err_from_is_err_and}
use Rattle.std.proofs.lemmas.List.Elements.{All-map}
use Rattle.std.specs.Str.{IsUtf8}
use Rattle.std.specs.String.{string_bytes}
use Rattle.smpe_invocation.specs.Answers.{IsRead, IsRefused}
use Rattle.smpe_command.specs.Asking.{AreText, IsUnasked, shown}
use Rattle.smpe_command.proofs.Texts.{shown_text, text_each, unasked_refused}
use Rattle.smpe_command.proofs.asked_words.read_words.Goals.{After-invocation}
use Rattle.smpe_command.proofs.asked_words.read_words.Goals as goal

-- `clap` takes the words as they are shown
views : (c : After-invocation)
    → map (λ view. view.now) c.as_slice-2.result.now ≡ shown (map (λ word. word.items) c.args.words.now)
views c = ap (map (λ view. view.now)) c.as_slice-2.ensures.value ∙ c.in_ok-views.ensures
    ∙ ap (map string_bytes) c.as_slice.ensures.value ∙ c.in_ok-texts.ensures

pub returns-in_err-request-clause-err : goal.returns-in_err-request-clause-err
returns-in_err-request-clause-err c =
    let words = map (λ word. word.items) c.args.words.now in
    let fault = c.in_err-request.field-0.0 in
    let failed = err_from_is_err_and c.from_residual-in_err-request.result c.from_residual-in_err-request.ensures.1 in
    subst (λ r. IfErr r (IsUnasked words)) (sym (failed.1 ∙ ap (λ e. Err e) failed.2))
    (unasked_refused words fault (subst (λ texts. IsRefused texts fault)
    (views (goal.at.returns-in_err-request-clause-err c).After-invocation) c.in_err-request.ensures.err))

pub returns-then-are_utf8-clause-ok : goal.returns-then-are_utf8-clause-ok
returns-then-are_utf8-clause-ok c =
    let words = map (λ word. word.items) c.args.words.now in
    let text : AreText words =
    All-map IsUtf8 (λ word. word.items) c.args.words.now (c.are_utf8.ensures.0 c.if-are_utf8.true) in (
      text,
      subst (λ texts. IsRead texts c.in_ok-request.request)
          (views (goal.at.returns-then-are_utf8-clause-ok c).After-invocation ∙ shown_text words text)
          c.in_ok-request.ensures.ok,
    )

pub returns-clause-err : goal.returns-clause-err
returns-clause-err c = inr (
  (λ text. let is = c.are_utf8.ensures.1 (text_each (λ word. word.items) c.args.words.now text) in search rules),
  (
    c.in_ok-request.request,
    subst (λ texts. IsRead texts c.in_ok-request.request) (views (goal.at.returns-clause-err c).After-invocation)
        c.in_ok-request.ensures.ok,
  ),
)
