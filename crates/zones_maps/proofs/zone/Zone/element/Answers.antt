use Rattle.std.proofs.Common.{◌∙◌, ◌&&◌, ap}
use Rattle.std.specs.Str.{bytes_eq}
use Rattle.terms.proofs.Searches.{find_agree}
use Rattle.terms.proofs.ElementOrder.{eq_types}
use Rattle.zones_maps.proofs.zone.Zone.element.Goals as goal

pub returns-clause-found : goal.returns-clause-found
returns-clause-found c =
    rw (← c.self.view_is) (c.get.ensures ∙ find_agree _ _ (λ x.
    ap (λ b. b && bytes_eq x.name c.args.name) (eq_types x.elem_type c.args.elem_type)) c.self.inside.elements)
