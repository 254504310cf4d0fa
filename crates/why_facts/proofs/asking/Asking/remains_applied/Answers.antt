use Rattle.std.proofs.Common.{◌∙◌, ap}
use Rattle.terms.specs.Types.{Zone}
use Rattle.terms.specs.Lookups.{is_applied}
use Rattle.why_facts.proofs.asking.Asking.remains_applied.Goals as goal

pub returns : goal.returns
returns c = c.is_applied.ensures ∙ ap (λ (z : Zone). is_applied z c.args.id) c.args.self.now.left_is
