-- The command line as `clap` sees it, and what is made of a refusal.
use Rattle.std.proofs.Common.{◌≡◌, ◌∙◌, ◌++◌, ◌||◌, List, [], ◌∷◌, false, true, ap, ap₂, refl, inl, inr, subst, sym}
use Rattle.std.specs.Prelude.{Result, Err, IfErr, IsErrAnd}
use Rattle.std.proofs.lemmas.Result.{err_from_is_err_and}
use Rattle.clap.specs.Words.{AddsArg, App, HasKind, Rule, app_of, fault_of, is_simple, rule_of, with_rule}
use Rattle.clap.specs.Faults.{is_simple_and_free}
use Rattle.clap.specs.declared.builder.arg.Arg.{Arg}
use Rattle.clap.specs.declared.builder.command.Command.{Command}
use Rattle.clap.specs.declared.builder.value_parser.ValueParser.{ValueParser}
use Rattle.clap.specs.declared.error.Error.{Error}
use Rattle.clap.proofs.OnLiterals.{clap_on_literals}
use Rattle.terms.specs.Types.{Text}
use Rattle.intake_words.specs.Asking.{IsOfClap, IsOwn, IsRefused}
use Rattle.intake_words.specs.CommandLine.{HasRules, IsCommandLine, intake}
use Rattle.intake_words.specs.declared.options.WordsFault.{WordsFault}
use Rattle.intake_words.specs.declared.options.WordsFault.TheVariants.{Memory, Clap, BadOperand}

pub one_more : (old new : Command) (a : Arg) (rules : List Rule) (r : Rule)
    → HasRules rules old → AddsArg old a new → rule_of a ≡ r → a.global ≡ false → HasRules (rules ++ r ∷ []) new
one_more old new a rules r has added rule global = (
  added.shape global ∙ ap₂ with_rule has.0 rule,
  added.globals ∙ ap₂ (λ x y. x || y) has.1 global,
)

intake_is_simple_and_free : (code_words summary_words : ValueParser)
    → is_simple_and_free (intake code_words summary_words) ≡ true
unfolding clap_on_literals
intake_is_simple_and_free code_words summary_words = refl

intake_is_simple : (code_words summary_words : ValueParser) → is_simple (intake code_words summary_words) ≡ true
unfolding clap_on_literals
intake_is_simple code_words summary_words = refl

pub free : (c : Command) → IsCommandLine (app_of c) → is_simple_and_free (app_of c) ≡ true
free c line = ap is_simple_and_free line.4 ∙ intake_is_simple_and_free line.0 line.1

pub simple : (c : Command) → IsCommandLine (app_of c) → is_simple (app_of c) ≡ true
simple c line = ap is_simple line.4 ∙ intake_is_simple line.0 line.1

pub refused_by_clap : (words : List Text) (app : App) → IsCommandLine app → (error : Error) (fault : WordsFault)
    → HasKind (fault_of app words) error → IsOfClap error fault → IsRefused words fault
refused_by_clap words app line error Memory kinds of = tt
refused_by_clap words app line error (BadOperand why) kinds of = absurd of
refused_by_clap words app line error (Clap own) (inl memory) of = absurd (of.1 memory)
refused_by_clap words app line error (Clap own) (inr among) of = (app, line, rw of.0 among)

-- a fault that is none of clap's
pub own_refused : (words : List Text) (fault : WordsFault) → IsOwn fault → IsRefused words fault
own_refused words Memory own = tt
own_refused words (BadOperand why) own = tt
own_refused words (Clap error) own = absurd own

-- it is handed on
pub own_handed_on : {X : Type 0} (r : Result X WordsFault) (fault : WordsFault) → IsErrAnd r (λ y. y ≡ fault)
    → IsOwn fault → IfErr r IsOwn
own_handed_on r fault told own =
    let is = err_from_is_err_and r told in
    subst (λ q. IfErr q IsOwn) (sym (is.1 ∙ ap (λ y. Err y) is.2)) own
