-- The rows of zones.
use Rattle.std.proofs.Common.{◌≡◌, ℕ, ℤ, pos, [], ◌∷◌, refl, ap, ◌∙◌}
use Rattle.std.specs.List.{join_with_byte, concat}
use Rattle.sqlite.specs.declared.types.Value.TheVariants as value
use Rattle.sqlite_value.specs.declared.value.ValueRef.{ValueRef}
use Rattle.sqlite_value.specs.Value.{owned}
use Rattle.sqlite.specs.Values.{or_null, bound_value}
use Rattle.terms.specs.declared.kinds.ElemType.{ElemType}
use Rattle.terms.specs.Types.{Text, Id, Entry, Element, NamedZone}
use Rattle.terms.specs.Lookups.{date_of}
use Rattle.terms.specs.Spelling.{type_text, zone_kind_text}
use Rattle.store_rows.specs.Texts.{SuitColumns}
use Rattle.store_rows.proofs.Values.{kept_optional, kept_whole, bound_optional}
use Rattle.store_schema.specs.Rows.{entry_row, chosen_row, zelem_row, zone_row}
use Rattle.store_schema.specs.Tables.{entry, chosen, zelem, zone}
use Rattle.store_zones.specs.Elements.{element_key}

-- their columns keep them
pub kept_entry : (name : Text) (e : Entry) → SuitColumns entry.columns (entry_row name e)
kept_entry name e = (refl, (refl, (kept_optional (date_of e), (refl, (kept_optional e.delby, (refl, tt))))))

pub kept_chosen : (name : Text) (id : Id) (n : ℕ) → SuitColumns chosen.columns (chosen_row name id n)
kept_chosen name id n = (refl, (refl, (kept_whole (pos n), tt)))

pub kept_element : (name : Text) (e : Element) → SuitColumns zelem.columns (zelem_row name e)
kept_element name e = (refl, (refl, (refl, (refl, (refl, (refl, (refl, (refl, (refl, tt)))))))))

pub kept_zone : (z : NamedZone) → SuitColumns zone.columns (zone_row z)
kept_zone z = (refl, (refl, (refl, (kept_optional z.zone.related, tt))))

-- the values that are bound for an entry are its row
pub entry_bound : (zone id supby waived : Text) (date delby : ValueRef) (name : Text) (e : Entry) → zone ≡ name
    → id ≡ e.id → owned date ≡ or_null value.Text (date_of e) → supby ≡ join_with_byte 44 e.supby
    → owned delby ≡ or_null value.Text e.delby → waived ≡ join_with_byte 44 e.waived
    → value.Text zone ∷ value.Text id ∷ bound_value (owned date) ∷ value.Text supby ∷ bound_value (owned delby) ∷
    value.Text waived ∷ [] ≡ entry_row name e
entry_bound zone id supby waived date delby name e is_zone is_id is_date is_supby is_delby is_waived =
    let applied : bound_value (owned date) ≡ or_null value.Text (date_of e) =
    ap bound_value is_date ∙ bound_optional (date_of e) in
    let deleted : bound_value (owned delby) ≡ or_null value.Text e.delby =
    ap bound_value is_delby ∙ bound_optional e.delby in
    cc

-- and so it is for its number
pub chosen_bound : (zone id : Text) (number : ℤ) (name : Text) (x : Id) (n : ℕ) → zone ≡ name → id ≡ x
    → number ≡ pos n → value.Text zone ∷ value.Text id ∷ value.Int number ∷ [] ≡ chosen_row name x n
chosen_bound zone id number name x n is_zone is_id is_number = cc

-- and for a zone
pub zone_bound : (name kind srel : Text) (related : ValueRef) (z : NamedZone) → name ≡ z.name
    → kind ≡ zone_kind_text z.zone.kind → srel ≡ z.zone.srel → owned related ≡ or_null value.Text z.zone.related
    → value.Text name ∷ value.Text kind ∷ value.Text srel ∷ bound_value (owned related) ∷ [] ≡ zone_row z
zone_bound name kind srel related z is_name is_kind is_srel is_related =
    let other : bound_value (owned related) ≡ or_null value.Text z.zone.related =
    ap bound_value is_related ∙ bound_optional z.zone.related in
    cc

-- and for an element
pub element_bound : (zone type name fmid rmid umids distlib syslib text : Text) (other : Text) (e : Element)
    → zone ≡ other → type ≡ type_text e.elem_type → name ≡ e.name → fmid ≡ e.fmid → rmid ≡ e.rmid
    → umids ≡ join_with_byte 44 e.umids → distlib ≡ e.distlib → syslib ≡ e.syslib → text ≡ concat e.text
    → value.Text zone ∷ value.Text type ∷ value.Text name ∷ value.Text fmid ∷ value.Text rmid ∷ value.Text umids ∷
    value.Text distlib ∷ value.Text syslib ∷ value.Blob text ∷ [] ≡ zelem_row other e
element_bound zone type name fmid rmid umids distlib syslib text other e is_zone is_type is_name is_fmid is_rmid
    is_umids is_distlib is_syslib is_text = cc

-- and for its key
pub element_key_bound : (zone type name other x : Text) (t : ElemType) → zone ≡ other → type ≡ type_text t → name ≡ x
    → value.Text zone ∷ value.Text type ∷ value.Text name ∷ [] ≡ element_key other t x
element_key_bound zone type name other x t is_zone is_type is_name = cc
