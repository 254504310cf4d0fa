-- The zone that a edits makes of another.
use Rattle.std.proofs.Common.{refl, IsTrue}
use Rattle.std.specs.Cmp.Lexicographic.{texts_ties}
use Rattle.std.specs.Str.{bytes_eq}
use Rattle.std.proofs.lemmas.Cmp.{nat_list_cmp_total}
use Rattle.terms.specs.Types.{Zone, Entry}
use Rattle.terms.specs.Lookups.{IsZone, has_content, waives_applied, element_key, element_eq}
use Rattle.sorted.proofs.Editing.{All_edited, Rises_edited, find_edited}
use Rattle.terms.proofs.ElementOrder.{element_cmp_total, element_ties}
use Rattle.zones_maps.specs.Delta.{ZoneEdits, AreEdits, IsEdited}
use Rattle.zones_maps.specs.Changed.{changed_zone}

-- of each zone there is one as a edits changes it
pub zone_changes : (edits : ZoneEdits) (old : Zone) → AreEdits edits → IsZone old
    → IsEdited edits old (changed_zone edits old)
zone_changes edits old it was = record {
  rest = refl;
  is_zone = record {
    entries = Rises_edited nat_list_cmp_total (λ (e : Entry). e.id) edits.entries old.entries was.entries;
    held = All_edited nat_list_cmp_total (λ e. e.id) (λ e. IsTrue (has_content e)) edits.entries old.entries was.held
        it.held;
    waived = All_edited nat_list_cmp_total (λ e. e.id) (λ e. IsTrue (waives_applied e)) edits.entries old.entries
        was.waived it.waived;
    elements = Rises_edited element_cmp_total element_key edits.elements old.elements was.elements;
    related = was.related;
  };
  entries = λ x. find_edited nat_list_cmp_total (λ e. e.id) bytes_eq texts_ties edits.entries it.entries old.entries x;
  elements = λ type name. find_edited element_cmp_total element_key element_eq element_ties edits.elements it.elements
      old.elements (type, name);
}
