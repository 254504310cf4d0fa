use Rattle.std.proofs.Common.{◌∙◌, sym}
use Rattle.std.specs.Str.{bytes_eq}
use Rattle.terms.proofs.Searches.{list_any_map}
use Rattle.intake_command.proofs.own.is_written.Goals as goal

pub returns : goal.returns
returns c = c.is_one_of.ensures ∙ sym (list_any_map (bytes_eq c.args.name.now) (λ name. name.now) c.args.written.now)
