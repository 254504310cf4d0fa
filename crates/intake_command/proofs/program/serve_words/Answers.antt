use Rattle.std.proofs.Common.{◌≡◌, ◌⊎◌, ◌∷◌, [], ℕ, List, subst, inl, inr}
use Rattle.terms.specs.Types.{Text}
use Rattle.clap.specs.declared.error.Error.{Error}
use Rattle.intake_words.specs.Asking.{Answers, AsksForText, IsShownText}
use Rattle.intake_command.specs.Acts.{IsQuiet, Speaks}
use Rattle.intake_command.specs.Serving.{EndsWords, EndsShown, EndsQuietly, EndsCalled}
use Rattle.intake_command.proofs.Doing.{did, one, weaker}
use Rattle.clap.specs.Words.{kind_of}
use Rattle.intake_command.proofs.program.serve_words.Goals as goal

shown_for : (words : List Text) (error : Error) → Answers words (kind_of error) → IsShownText error
    → AsksForText words
shown_for words error answers (inl help) = inl (subst (Answers words) help answers)
shown_for words error answers (inr version) = inr (subst (Answers words) version answers)

ends : (words : List Text) (error : Error) (status : ℕ) → Answers words (kind_of error)
    → ((status ≡ 0) × IsShownText error) ⊎ (status ≡ 16) → EndsWords words status (Speaks ∷ [])
ends words error status answers (inl shown) =
    EndsShown shown.0 (shown_for words error answers shown.1) (one IsQuiet Speaks tt)
ends words error status answers (inr fault) = EndsQuietly fault (one IsQuiet Speaks tt)

pub returns-in-Ok : goal.returns-in-Ok
returns-in-Ok g c =
    weaker g.H.IntakeHost c.serve_if_own.ensures (λ acts ended. EndsCalled c.in-Ok.asked c.in-Ok.ensures.ok ended)

pub returns-in-Err-Clap : goal.returns-in-Err-Clap
returns-in-Err-Clap g c =
    let refused = rw c.in-Err-Clap.field-0-is at c.in-Err-Clap.ensures.err in
    did g.H.IntakeHost _ Speaks _ c.show_clap_text.ensures.says
    (ends _ c.in-Err-Clap.error c.show_clap_text.result refused c.show_clap_text.ensures.status)

pub returns-in-Err : goal.returns-in-Err
returns-in-Err g c =
    did g.H.IntakeHost _ Speaks _ c.tell_fault.ensures.says
    (EndsQuietly c.tell_fault.ensures.status (one IsQuiet Speaks tt))
