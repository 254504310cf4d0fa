-- The command line, in the words of `clap`'s contracts.
use Rattle.std.specs.Prelude.{◌≡◌, true, false, List, [], ◌∷◌, map, Some, codes}
use Rattle.clap.specs.Words.{App, Rule, Text, app_of, new_app, new_rule}
use Rattle.clap.specs.Lexer.{usize_max}
use Rattle.clap.specs.declared.builder.action.ArgAction.TheVariants.{Append, SetTrue}
use Rattle.clap.specs.declared.builder.command.Command.{Command}
use Rattle.clap.specs.declared.builder.command.Command.TheViews.{out-Command as fields_of}
use Rattle.clap.specs.declared.builder.value_parser.ValueParser.{ValueParser}
use Rattle.clap.specs.declared.builder.value_parser.ValueParser.TheVariants.{Names}

-- `--id TEXT`, which is optional
abbrev pub optional_arg : Text → Rule
optional_arg id = record (new_rule id) { long = Some id; value_names = 1 }

-- one that may be repeated
abbrev pub repeatable_arg : Text → Rule
repeatable_arg id = record (optional_arg id) { action = Some Append }

-- `--id`, which takes no value
abbrev pub flag_arg : Text → Rule
flag_arg id = record (new_rule id) { long = Some id; action = Some SetTrue }

-- `--id TEXT`, which takes some words alone
abbrev pub word_arg : Text → ValueParser → Rule
word_arg id words = record (optional_arg id) { parser = Some words }

-- it takes these words, as they are spelled
abbrev pub TakesWords : List Text → ValueParser → Type 0
TakesWords words parser = (names : _) × (parser ≡ Names names) × (map (λ name. name.now) names.now ≡ words)

-- the names of files, one or more
abbrev pub file_arg : Rule
file_arg = record (new_rule (codes "file")) {
  action = Some Append;
  range = Some (record { start_inclusive = 1; end_inclusive = usize_max });
  value_names = 1;
}

-- one that is required
abbrev pub required_arg : Text → Rule
required_arg id = record (optional_arg id) { required = true }

-- `smpe-intake --version`, without arguments yet
abbrev pub bare : App
bare = record { top = record (new_app (codes "smpe-intake")).top { has_version = true }; subs = [] }

-- the same with these arguments, none of which is global
abbrev pub HasRules : List Rule → Command → Type 0
HasRules rules c =
    (app_of c ≡ record bare { top = record bare.top { rules = rules } }) × ((fields_of c).has_globals ≡ false)

-- `smpe-intake --out DIR [--text|--records] [--code CODE] [--syslib DISTLIB=SYSLIB].. [--relfile DIR] [--decide]
-- [--summary FORM] FILE..`, or with `--cntl FILE [--known FILE]..` in place of FILE
abbrev pub intake : ValueParser → ValueParser → App
intake code_words summary_words = record bare {
  top = record bare.top {
    rules = required_arg (codes "out") ∷ optional_arg (codes "cntl") ∷ repeatable_arg (codes "known")
        ∷ flag_arg (codes "text") ∷ flag_arg (codes "records") ∷ word_arg (codes "code") code_words
        ∷ repeatable_arg (codes "syslib") ∷ optional_arg (codes "relfile") ∷ flag_arg (codes "decide")
        ∷ word_arg (codes "summary") summary_words ∷ file_arg ∷ [];
  };
}

abbrev pub IsCommandLine : App → Type 0
IsCommandLine app = (code_words summary_words : ValueParser)
    × TakesWords (codes "ascii" ∷ codes "ibm1047" ∷ codes "ibm037" ∷ []) code_words
    × TakesWords (codes "text" ∷ codes "json" ∷ []) summary_words × (app ≡ intake code_words summary_words)
