use Rattle.std.proofs.Common.{◌∙◌, ap}
use Rattle.terms.specs.Types.{Zone}
use Rattle.terms.specs.Needs.{is_met}
use Rattle.why_facts.proofs.asking.Asking.meets_need.Goals as goal

pub returns : goal.returns
returns c = c.meets_need.ensures ∙ ap (λ (z : Zone). is_met z c.args.kind c.args.id) c.args.self.now.left_is
