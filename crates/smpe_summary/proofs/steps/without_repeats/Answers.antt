use Rattle.std.specs.Str.{bytes_eq}
use Rattle.std.proofs.lemmas.List.Filters.{dedup_is}
use Rattle.smpe_summary.proofs.steps.without_repeats.Goals as goal

pub returns : goal.returns
returns c = dedup_is bytes_eq c.args.ids.items c.dedup.new.self.items c.dedup.ensures.filtered
