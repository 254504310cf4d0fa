-- Commands built up by `arg` and `subcommand`.
use Rattle.std.proofs.Common.{◌≡◌, ◌∙◌, ◌++◌, ◌||◌, List, [], ◌∷◌, false, true, ap, ap₂, refl}
use Rattle.clap.specs.Words.{AddsArg, App, Rule, Shape, Text, is_simple, rule_of, shape_of, with_rule}
use Rattle.clap.specs.Faults.{is_simple_and_free}
use Rattle.clap.specs.declared.builder.arg.Arg.{Arg}
use Rattle.clap.specs.declared.builder.command.Command.{Command}
use Rattle.clap.specs.declared.builder.value_parser.ValueParser.{ValueParser}
use Rattle.clap.proofs.OnLiterals.{clap_on_literals}
use Rattle.smpe_invocation.specs.CommandLine.{IsSubcommand, smpe, with_options}

pub one_more : (old new : Command) (a : Arg) (name : Text) (rules : List Rule) (r : Rule)
    → IsSubcommand (with_options name rules) old → AddsArg old a new → rule_of a ≡ r → a.global ≡ false
    → IsSubcommand (with_options name (rules ++ r ∷ [])) new
one_more old new a name rules r has added rule global = (
  added.shape global ∙ ap₂ with_rule has.0 rule,
  added.globals ∙ ap₂ (λ x y. x || y) has.1 global,
)

pub shape_is : (c : Command) (shape : Shape) → IsSubcommand shape c → shape_of c ≡ shape
shape_is c shape is = ap (λ (a : App). a.top) is.0

pub smpe_is_simple_and_free : (kinds forms : ValueParser) → is_simple_and_free (smpe kinds forms) ≡ true
unfolding clap_on_literals
smpe_is_simple_and_free kinds forms = refl

pub smpe_is_simple : (kinds forms : ValueParser) → is_simple (smpe kinds forms) ≡ true
unfolding clap_on_literals
smpe_is_simple kinds forms = refl
