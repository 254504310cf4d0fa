-- Zones that have the same at each key are one.
use Rattle.std.proofs.Common.{◌≡◌, false, IsTrue, List, [], refl, sym, ap, ◌∙◌, true≢false, subst}
use Rattle.std.specs.Prelude.{Option, Some, None, is_some, ◌||◌, not}
use Rattle.std.specs.Option.{option_map_or, option_and_then}
use Rattle.std.specs.Cmp.Lexicographic.{texts_ties}
use Rattle.std.specs.Str.{bytes_eq}
use Rattle.std.proofs.lemmas.Cmp.{nat_list_cmp_total}
use Rattle.terms.specs.declared.kinds.ElemType.{ElemType}
use Rattle.terms.specs.Types.{Text, Id, Applied, Entry, Zone, a_zone}
use Rattle.terms.specs.Lookups.{IsZone, is_nil, has_content, entry_of, element_of, element_key, applied_of, supby_of}
use Rattle.terms.specs.Lookups.{delby_of, waived_of}
use Rattle.terms.specs.Lookups.{element_eq}
use Rattle.terms.proofs.ElementOrder.{element_cmp_total, element_ties}
use Rattle.terms.proofs.TextOrder.{same_from}
use Rattle.terms.proofs.SameLists.{rising_same}
use Rattle.terms.proofs.Searches.{find_gives}

all_fields : (a b : Zone) → a.kind ≡ b.kind → a.srel ≡ b.srel → a.related ≡ b.related → a.entries ≡ b.entries
    → a.elements ≡ b.elements → a ≡ b
all_fields a b k s r e l =
    ap (λ v. a_zone v a.srel a.related a.entries a.elements) k
    ∙ ap (λ v. a_zone b.kind v a.related a.entries a.elements) s
    ∙ ap (λ v. a_zone b.kind b.srel v a.entries a.elements) r ∙ ap (λ v. a_zone b.kind b.srel b.related v a.elements) e
    ∙ ap (λ v. a_zone b.kind b.srel b.related b.entries v) l

-- zones of one kind, SREL and related zone, with the same entry and element at each key
pub same_zone : (a b : Zone) → IsZone a → IsZone b → a.kind ≡ b.kind → a.srel ≡ b.srel → a.related ≡ b.related
    → ((x : Id) → entry_of a x ≡ entry_of b x) → ((type : ElemType) (name : Text)
    → element_of a type name ≡ element_of b type name) → a ≡ b
same_zone a b za zb k s r entries elements =
    all_fields a b k s r
    (rising_same nat_list_cmp_total (λ (e : Entry). e.id) bytes_eq texts_ties a.entries b.entries za.entries zb.entries
    entries)
    (rising_same element_cmp_total element_key element_eq element_ties a.elements b.elements za.elements zb.elements
    (λ key. elements key.0 key.1))

-- an entry of these fields
abbrev pub an_entry : Id → Option Applied → List Id → Option Id → List Id → Entry
an_entry id applied supby delby waived = record {
  id = id;
  applied = applied;
  supby = supby;
  delby = delby;
  waived = waived;
}

entry_fields : (e f : Entry) → e.id ≡ f.id → e.applied ≡ f.applied → e.supby ≡ f.supby → e.delby ≡ f.delby
    → e.waived ≡ f.waived → e ≡ f
entry_fields e f i a s d w =
    ap (λ v. an_entry v e.applied e.supby e.delby e.waived) i ∙ ap (λ v. an_entry f.id v e.supby e.delby e.waived) a
    ∙ ap (λ v. an_entry f.id f.applied v e.delby e.waived) s ∙ ap (λ v. an_entry f.id f.applied f.supby v e.waived) d
    ∙ ap (λ v. an_entry f.id f.applied f.supby f.delby v) w

held_entry : (zone : Zone) → IsZone zone → (x : Id) (e : Entry) → entry_of zone x ≡ Some e → IsTrue (has_content e)
held_entry zone z x e at =
    let g = find_gives (λ v. bytes_eq v.id x) zone.entries e at in
    subst (λ v. IsTrue (has_content v)) g.1.2 (z.held g.1.0 e g.1.1)

-- no entry is there where there is no date, SUPBY or DELBY
bare : {A : Type 0} (e : Entry) → IsTrue (has_content e) → e.applied ≡ None → e.supby ≡ [] → e.delby ≡ None → A
bare e held a s d =
    let off : (is_some e.applied || not (is_nil e.supby) || is_some e.delby) ≡ false = rw (a, s, d) refl in
    absurd (true≢false (sym held ∙ off))

-- an entry is all that its date, SUPBY, DELBY and waived list say
pub same_entry : (a b : Zone) → IsZone a → IsZone b → (x : Id) → applied_of a x ≡ applied_of b x
    → supby_of a x ≡ supby_of b x
    → delby_of a x ≡ delby_of b x → waived_of a x ≡ waived_of b x → entry_of a x ≡ entry_of b x
same_entry a b za zb x date supby delby waived = by_found (entry_of a x) refl (entry_of b x) refl
  where
    by_found : (p : Option Entry) → entry_of a x ≡ p → (q : Option Entry) → entry_of b x ≡ q
        → entry_of a x ≡ entry_of b x
    by_found None at None to = at ∙ sym to
    by_found None at (Some f) to =
        bare f (held_entry b zb x f to)
        (sym (ap (option_and_then (λ e. e.applied)) to) ∙ sym date ∙ ap (option_and_then (λ e. e.applied)) at)
        (sym (ap (λ o. option_map_or (λ e. e.supby) o []) to) ∙ sym supby
        ∙ ap (λ o. option_map_or (λ e. e.supby) o []) at)
        (sym (ap (option_and_then (λ e. e.delby)) to) ∙ sym delby ∙ ap (option_and_then (λ e. e.delby)) at)
    by_found (Some e) at None to =
        bare e (held_entry a za x e at)
        (sym (ap (option_and_then (λ v. v.applied)) at) ∙ date ∙ ap (option_and_then (λ v. v.applied)) to)
        (sym (ap (λ o. option_map_or (λ v. v.supby) o []) at) ∙ supby ∙ ap (λ o. option_map_or (λ v. v.supby) o []) to)
        (sym (ap (option_and_then (λ v. v.delby)) at) ∙ delby ∙ ap (option_and_then (λ v. v.delby)) to)
    by_found (Some e) at (Some f) to =
        let id_e = same_from e.id x (find_gives (λ v. bytes_eq v.id x) a.entries e at).0 in
        let id_f = same_from f.id x (find_gives (λ v. bytes_eq v.id x) b.entries f to).0 in
        at ∙ ap (λ v. Some v) (entry_fields e f (id_e ∙ sym id_f)
        (sym (ap (option_and_then (λ v. v.applied)) at) ∙ date ∙ ap (option_and_then (λ v. v.applied)) to)
        (sym (ap (λ o. option_map_or (λ v. v.supby) o []) at) ∙ supby ∙ ap (λ o. option_map_or (λ v. v.supby) o []) to)
        (sym (ap (option_and_then (λ v. v.delby)) at) ∙ delby ∙ ap (option_and_then (λ v. v.delby)) to)
        (sym (ap (λ o. option_map_or (λ v. v.waived) o []) at) ∙ waived
        ∙ ap (λ o. option_map_or (λ v. v.waived) o []) to)) ∙ sym to
