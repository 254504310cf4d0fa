use Rattle.std.proofs.Common.{◌∙◌, ap}
use Rattle.terms.specs.Types.{Zone}
use Rattle.terms.specs.Lookups.{element_of}
use Rattle.why_facts.proofs.asking.Asking.element.Goals as goal

pub returns : goal.returns
returns c =
    c.element.ensures ∙ ap (λ (z : Zone). element_of z c.args.elem_type c.args.name) c.args.self.now.seen_is
