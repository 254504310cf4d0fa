use Rattle.std.proofs.Common.{◌∙◌, ap, true}
use Rattle.clap.specs.Simple.{app_of_fields}
use Rattle.clap.specs.Words.{App}
use Rattle.clap.specs.declared.builder.command.Command.{Command}
use Rattle.clap.specs.declared.builder.command.Command.TheOpen.{Command-F}
use Rattle.intake_words.proofs.command_line.bare_command.Goals as goal

pub returns : goal.returns
returns c = (
  ap app_of_fields c.after_help.ensures ∙ ap app_of_fields c.about.ensures ∙ ap app_of_fields c.version.ensures
      ∙ ap (λ (a : App). record a { top = record a.top { has_version = true } }) c.new.ensures.app,
  ap (λ (f : Command-F Command). f.has_globals) c.after_help.ensures
      ∙ ap (λ (f : Command-F Command). f.has_globals) c.about.ensures
      ∙ ap (λ (f : Command-F Command). f.has_globals) c.version.ensures ∙ c.new.ensures.local,
)
