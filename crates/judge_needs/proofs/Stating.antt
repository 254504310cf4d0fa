-- What SYSMODs that deletions leave state for functions.
use Rattle.std.proofs.Common.{◌≡◌, Bool, true, false, List, [], ◌∷◌, ◌++◌, filter, map, cond, is_some}
use Rattle.std.proofs.Common.{None, Contains, refl, sym, ap, ◌∙◌}
use Rattle.std.specs.Prelude.{◌&&◌, not, if◌then◌else◌}
use Rattle.std.specs.List.{flat_map}
use Rattle.std.specs.Option.{option_map_or}
use Rattle.std.specs.Str.{bytes_eq}
use Rattle.std.proofs.lemmas.List.{map-append}
use Rattle.std.proofs.lemmas.List.Elements.{filter-append}
use Rattle.terms.proofs.ListMembers.{here, there}
use Rattle.terms.proofs.Options.{is_some_unless}
use Rattle.terms.specs.Types.{Id, Global, Entry, Zone}
use Rattle.terms.specs.Lookups.{has_content, is_applied, applied_ids, IsZone}
use Rattle.terms.specs.Choice.{Choice}
use Rattle.terms.specs.Deleted.{is_deleted, is_taken_out, entry_less, zone_less}
use Rattle.terms.specs.Conditions.{if_reqs, stated_for}
use Rattle.terms.proofs.Applied.{found_itself}
use Rattle.zones.proofs.Flats.{filter_weaker}
use Rattle.zones.proofs.Lookups.{is_applied_less}
use Rattle.judge_needs.specs.declared.stated.StatedRequisite.{StatedRequisite}
use Rattle.judge_needs.specs.Conditions.{a_requisite, stated_by}

module _ (g : Global) (c : Choice) (dels : List Id) (zone : Zone) (z : IsZone zone) where
  abbrev is_gone : Id → Bool
  is_gone = is_taken_out g c dels zone

  abbrev left : Zone
  left = zone_less g c dels zone

  abbrev dated : Entry → Bool
  dated e = is_some e.applied

  -- a SYSMOD that was applied is left where it is not gone
  stays : (e : Entry) → Contains zone.entries e → is_some e.applied ≡ true
      → is_applied left e.id ≡ not (is_gone e.id)
  stays e among on =
      let applied : is_applied zone e.id ≡ true =
      ap (λ o. option_map_or (λ e. is_some e.applied) o false) (found_itself zone.entries z.entries e among) ∙ on in
      is_applied_less g c dels zone z e.id
      ∙ ap (λ b. b && not (is_deleted g c dels e.id)) applied
      ∙ sym (ap (λ b. not (b && is_deleted g c dels e.id)) applied)

  ids_left : (es : List Entry) → ((e : Entry) → Contains es e → Contains zone.entries e)
      → map (λ e. e.id) (filter dated (map (entry_less is_gone) es))
      ≡ filter (is_applied left) (map (λ e. e.id) (filter dated es))
  ids_left [] among = refl
  ids_left (e ∷ es) among = by (ids_left es (λ f h. among f (there e es f h))) (is_some e.applied) refl
    where
      Rest : Type 0
      Rest = map (λ (e : Entry). e.id) (filter dated (map (entry_less is_gone) es))
          ≡ filter (is_applied left) (map (λ e. e.id) (filter dated es))

      Old : Bool → List Id
      Old b = map (λ e. e.id) (cond b (entry_less is_gone e ∷ filter dated (map (entry_less is_gone) es))
          (filter dated (map (entry_less is_gone) es)))

      New : Bool → List Id
      New b = filter (is_applied left) (map (λ e. e.id) (cond b (e ∷ filter dated es) (filter dated es)))

      kept : Rest → (b : Bool) → Old b ≡ cond b (e.id ∷ filter (is_applied left) (map (λ e. e.id) (filter dated es)))
          (filter (is_applied left) (map (λ e. e.id) (filter dated es)))
      kept rest true = ap (λ ids. e.id ∷ ids) rest
      kept rest false = rest

      by : Rest → (b : Bool) → is_some e.applied ≡ b → Old (is_some (if is_gone e.id then None else e.applied))
          ≡ New (is_some e.applied)
      by rest true on =
          ap Old (is_some_unless (is_gone e.id) e.applied)
          ∙ ap (λ b. Old (b && not (is_gone e.id))) on
          ∙ ap Old (sym (stays e (among e (here e es)) on))
          ∙ kept rest (is_applied left e.id)
          ∙ sym (ap New on)
      by rest false off =
          ap Old (is_some_unless (is_gone e.id) e.applied)
          ∙ ap (λ b. Old (b && not (is_gone e.id))) off
          ∙ rest
          ∙ sym (ap New off)

  -- those that are applied in what is left
  pub applied_left : applied_ids left ≡ filter (is_applied left) (applied_ids zone)
  unfolding zone_less
  applied_left =
      ap (map (λ (e : Entry). e.id)) (filter_weaker dated has_content (λ e on. rw on refl)
      (map (entry_less is_gone) zone.entries))
      ∙ ids_left zone.entries (λ e h. h)

-- what those state that pass
module _ (c : Choice) (f : Id) (p : Id → Bool) where
  of_one : (y : Id) (b : Bool) → p y ≡ b → (zs : List Id)
      → map (λ (r : StatedRequisite). r.id) (filter (λ r. p r.by) (map (a_requisite y) zs)) ≡ cond b zs []
  of_one y true on [] = refl
  of_one y true on (z ∷ zs) =
      ap (λ b. map (λ (r : StatedRequisite). r.id)
      (cond b (a_requisite y z ∷ filter (λ r. p r.by) (map (a_requisite y) zs))
      (filter (λ r. p r.by) (map (a_requisite y) zs)))) on
      ∙ ap (λ l. z ∷ l) (of_one y true on zs)
  of_one y false off [] = refl
  of_one y false off (z ∷ zs) =
      ap (λ b. map (λ (r : StatedRequisite). r.id)
      (cond b (a_requisite y z ∷ filter (λ r. p r.by) (map (a_requisite y) zs))
      (filter (λ r. p r.by) (map (a_requisite y) zs)))) off
      ∙ of_one y false off zs

  pub stated_passing : (xs : List Id)
      → map (λ (r : StatedRequisite). r.id) (filter (λ r. p r.by) (flat_map (stated_by c f) xs))
      ≡ stated_for c (filter p xs) f
  stated_passing [] = refl
  stated_passing (y ∷ ys) =
      ap (map (λ (r : StatedRequisite). r.id))
      (filter-append (λ r. p r.by) (stated_by c f y) (flat_map (stated_by c f) ys))
      ∙ map-append (λ (r : StatedRequisite). r.id) (filter (λ r. p r.by) (stated_by c f y))
      (filter (λ r. p r.by) (flat_map (stated_by c f) ys))
      ∙ ap (λ l. l ++ map (λ (r : StatedRequisite). r.id) (filter (λ r. p r.by) (flat_map (stated_by c f) ys)))
      (of_one y (p y) refl (if_reqs c (bytes_eq f) y))
      ∙ ap (λ l. cond (p y) (if_reqs c (bytes_eq f) y) [] ++ l) (stated_passing ys)
      ∙ by (p y)
    where
      by : (b : Bool) → cond b (if_reqs c (bytes_eq f) y) [] ++ stated_for c (filter p ys) f
          ≡ stated_for c (cond b (y ∷ filter p ys) (filter p ys)) f
      by true = refl
      by false = refl

-- what is stated by those that are left
pub stated_left : (g : Global) (c : Choice) (dels : List Id) (zone : Zone) → IsZone zone → (f : Id)
    → map (λ (r : StatedRequisite). r.id) (filter (λ r. is_applied (zone_less g c dels zone) r.by)
    (flat_map (stated_by c f) (applied_ids zone)))
    ≡ stated_for c (applied_ids (zone_less g c dels zone)) f
stated_left g c dels zone z f =
    stated_passing c f (is_applied (zone_less g c dels zone)) (applied_ids zone)
    ∙ ap (λ xs. stated_for c xs f) (sym (applied_left g c dels zone z))
