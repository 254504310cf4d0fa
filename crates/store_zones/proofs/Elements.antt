-- The rows of a zone's elements.
use Rattle.std.proofs.Common.{◌≡◌, List, [], ap, ◌∙◌}
use Rattle.std.specs.Str.{bytes_eq}
use Rattle.store_rows.specs.Rows.{Contents, has_key}
use Rattle.terms.specs.Types.{Text, Element}
use Rattle.terms.proofs.ElementOrder.{element_cmp_total}
use Rattle.store_schema.specs.Rows.{zelem_row}
use Rattle.store_schema.proofs.OneState.{element_is}
use Rattle.store_zones.specs.declared.zone_rows.ZoneRow.{ZoneRow}
use Rattle.store_zones.specs.Held.{name_key, HoldsElements}
use Rattle.store_zones.specs.Elements.{row_of_element, HasElementRowForms}
use Rattle.store_zones.proofs.ZoneRows.{first_cell}
use Rattle.store_zones.proofs.InZone.{items_same}

pub exact_element : (a b : ZoneRow Element) → HasElementRowForms a → HasElementRowForms b
    → row_of_element a ≡ row_of_element b → a ≡ b
exact_element a b p q e =
    let zone : a.zone ≡ b.zone = cc in
    let item : a.item ≡ b.item = element_is a.zone b.zone a.item b.item p.element q.element e in
    ap (λ x. record a { zone = x }) zone ∙ ap (λ x. record b { item = x }) item

-- the name of the zone is their key
pub meets_element : (name other : Text) (e : Element)
    → has_key (name_key name) (zelem_row other e) ≡ bytes_eq other name
meets_element name other e = first_cell name other []

pub elements_same : (contents : Contents) (name : Text) (xs ys : List Element) → HoldsElements contents name xs
    → HoldsElements contents name ys → xs ≡ ys
elements_same = items_same _ zelem_row HasElementRowForms _ _ element_cmp_total exact_element
