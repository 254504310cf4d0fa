-- The command line, in the words of `clap`'s contracts.
use Rattle.std.specs.Prelude.{◌≡◌, true, false, List, [], ◌∷◌, map, Some, codes}
use Rattle.clap.specs.Words.{App, Rule, Shape, Text, app_of, new_app, new_rule}
use Rattle.clap.specs.Lexer.{usize_max}
use Rattle.clap.specs.declared.builder.action.ArgAction.TheVariants.{Append, SetTrue}
use Rattle.clap.specs.declared.builder.command.Command.{Command}
use Rattle.clap.specs.declared.builder.command.Command.TheViews.{out-Command as fields_of}
use Rattle.clap.specs.declared.builder.value_parser.ValueParser.{ValueParser}
use Rattle.clap.specs.declared.builder.value_parser.ValueParser.TheVariants.{Names}

-- `--id TEXT`, which is optional
abbrev pub optional_arg : Text → Rule
optional_arg id = record (new_rule id) { long = Some id }

-- `--id`, which takes no value
abbrev pub flag_arg : Text → Rule
flag_arg id = record (optional_arg id) { action = Some SetTrue }

-- one that is optional and may be repeated
abbrev pub optional_repeatable_arg : Text → Rule
optional_repeatable_arg id = record (optional_arg id) { action = Some Append }

-- `--id TEXT`, which is required
abbrev pub required_arg : Text → Rule
required_arg id = record (optional_arg id) { required = true }

-- the same, which may be repeated
abbrev pub required_repeatable_arg : Text → Rule
required_repeatable_arg id = record (required_arg id) { action = Some Append }

-- it takes one of these words
abbrev pub TakesWords : List Text → ValueParser → Type 0
TakesWords words parser = (names : _) × (parser ≡ Names names) × (map (λ name. name.now) names.now ≡ words)

-- it takes a kind of zones, as it is spelled
abbrev pub IsKindParser : ValueParser → Type 0
IsKindParser = TakesWords (codes "target" ∷ codes "distribution" ∷ [])

abbrev pub kind_arg : ValueParser → Rule
kind_arg kinds = record (required_arg (codes "kind")) { parser = Some kinds }

-- it takes a form of the answer of `lint`
abbrev pub IsFormParser : ValueParser → Type 0
IsFormParser = TakesWords (codes "text" ∷ codes "json" ∷ [])

abbrev pub form_arg : ValueParser → Rule
form_arg forms = record (optional_arg (codes "form")) { parser = Some forms }

-- `FILE..`, which are optional
abbrev pub file_arg : Rule
file_arg = record (new_rule (codes "file")) {
  action = Some Append;
  range = Some (record { start_inclusive = 1; end_inclusive = usize_max });
  value_names = 1;
}

-- the same, which are required
abbrev pub required_file_arg : Rule
required_file_arg = record file_arg { required = true }

-- a subcommand with these options
abbrev pub with_options : Text → List Rule → Shape
with_options name rules = record (new_app name).top { rules = rules }

-- the command is such a subcommand, without subcommands and global arguments of its own
abbrev pub IsSubcommand : Shape → Command → Type 0
IsSubcommand shape c = (app_of c ≡ record { top = shape; subs = [] }) × ((fields_of c).has_globals ≡ false)

-- `--db F [--wait SECONDS]`, and these after them
abbrev pub database_options : List Rule → List Rule
database_options more = required_arg (codes "db") ∷ optional_arg (codes "wait") ∷ more

-- `zone --db F [--wait SECONDS] --name Z --kind target|distribution --srel S [--related Z]`
abbrev pub zone_shape : ValueParser → Shape
zone_shape kinds = with_options (codes "zone") (database_options (required_arg (codes "name") ∷ kind_arg kinds
    ∷ required_arg (codes "srel") ∷ optional_arg (codes "related") ∷ []))

-- `run --db F [--wait SECONDS] --date YYYY-MM-DD --cntl F [--ptfin F] [--hold F] [--careful]`
abbrev pub run_shape : Shape
run_shape = with_options (codes "run") (database_options (required_arg (codes "date") ∷ required_arg (codes "cntl")
    ∷ optional_arg (codes "ptfin") ∷ optional_arg (codes "hold") ∷ flag_arg (codes "careful") ∷ []))

-- `list --db F [--wait SECONDS] --zone Z`
abbrev pub list_shape : Shape
list_shape = with_options (codes "list") (database_options (required_arg (codes "zone") ∷ []))

-- `why --db F [--wait SECONDS] --zone Z --id ID [--id ID].. [--together] [--group] [--bypass LIST]`
abbrev pub why_shape : Shape
why_shape = with_options (codes "why") (database_options (required_arg (codes "zone")
    ∷ required_repeatable_arg (codes "id") ∷ flag_arg (codes "together") ∷ flag_arg (codes "group")
    ∷ optional_arg (codes "bypass") ∷ []))

-- `--srel S`, or `--db F [--wait SECONDS] --zone Z`, and these after them
abbrev pub system_options : List Rule → List Rule
system_options more = optional_arg (codes "srel") ∷ optional_arg (codes "db") ∷ optional_arg (codes "wait")
    ∷ optional_arg (codes "zone") ∷ more

-- those, `[--why ID]..`, `--ptfin F [--hold F]` and `--cntl F --date YYYY-MM-DD`, and these after them
abbrev pub set_options : List Rule → List Rule
set_options more = system_options (optional_repeatable_arg (codes "why") ∷ optional_arg (codes "ptfin")
    ∷ optional_arg (codes "hold") ∷ optional_arg (codes "cntl") ∷ optional_arg (codes "date") ∷ more)

-- `check` of a system, with `FILE..` or `--ptfin F [--hold F]`, with `--cntl F --date YYYY-MM-DD`, and with
-- `--report` or `--json`, and `--certificate F`
abbrev pub check_shape : Shape
check_shape = with_options (codes "check") (set_options (flag_arg (codes "report") ∷ flag_arg (codes "json")
    ∷ optional_arg (codes "certificate") ∷ file_arg ∷ []))

-- `mend --id ID [--id ID].. FILE..` in a system
abbrev pub mend_shape : Shape
mend_shape = with_options (codes "mend")
    (system_options (required_repeatable_arg (codes "id") ∷ required_file_arg ∷ []))

-- `lint --srel S [--form text|json] FILE..`
abbrev pub lint_shape : ValueParser → Shape
lint_shape forms = with_options (codes "lint")
    (required_arg (codes "srel") ∷ form_arg forms ∷ required_file_arg ∷ [])

-- `migrate --db F [--wait SECONDS]`
abbrev pub migrate_shape : Shape
migrate_shape = with_options (codes "migrate") (database_options [])

-- `verify --db F [--wait SECONDS]`
abbrev pub verify_shape : Shape
verify_shape = with_options (codes "verify") (database_options [])

-- `smpe` with one of the nine, and `--version`
abbrev pub smpe : ValueParser → ValueParser → App
smpe kinds forms = record {
  top = record (new_app (codes "smpe")).top {
    is_leaf = false;
    has_version = true;
    subcommand_required = true;
    disable_help_subcommand = true;
  };
  subs = zone_shape kinds ∷ run_shape ∷ list_shape ∷ why_shape ∷ check_shape ∷ mend_shape ∷ lint_shape forms
      ∷ migrate_shape ∷ verify_shape ∷ [];
}

abbrev pub IsCommandLine : App → Type 0
IsCommandLine app = (kinds forms : ValueParser) × IsKindParser kinds × IsFormParser forms × (app ≡ smpe kinds forms)
