-- An install asks for the same, in whatever order the pairs of bypassed requisites stand.
use Rattle.std.proofs.Common.{inl, inr, ℕ, List, Option, None, Some, Contains}
use Rattle.std.specs.Prelude.{◌↔◌}
use Rattle.terms.specs.declared.kinds.ElemType.{ElemType}
use Rattle.terms.specs.Types.{Text, Id, Lines, Element, Zone}
use Rattle.terms.specs.Install.{Installation, TakesEffect, IsReplacer, HasBase, IsUpdater, Decides, IsUpdated}
use Rattle.terms.specs.Install.{HasElementAfter, delby_after, HasInstalled}

abbrev pub with_pairs : Installation → List (Id × Id) → Installation
with_pairs i pairs = record i { bypassed = pairs }

pub effect_with : (i : Installation) (pairs : List (Id × Id)) (x : Id) → TakesEffect i x
    → TakesEffect (with_pairs i pairs) x
effect_with i pairs x effect = record { kept = effect.kept; first = effect.first }

-- and back
pub effect_of : (i : Installation) (pairs : List (Id × Id)) (x : Id) → TakesEffect (with_pairs i pairs) x
    → TakesEffect i x
effect_of i pairs = effect_with (with_pairs i pairs) i.bypassed

module _ (type : ElemType) (name : Text) where
  replacer_with : (i : Installation) (pairs : List (Id × Id)) (r : Id) → IsReplacer i type name r
      → IsReplacer (with_pairs i pairs) type name r
  replacer_with i pairs r is = record {
    installed = effect_with i pairs r is.installed;
    replaces = is.replaces;
    over = λ y effect. is.over y (effect_of i pairs y effect);
  }

  base_with : (i : Installation) (pairs : List (Id × Id)) (r : Option Id) (base : Element) → HasBase i type name r base
      → HasBase (with_pairs i pairs) type name r base
  base_with i pairs None base is = (λ y effect. is.0 y (effect_of i pairs y effect), is.1)
  base_with i pairs (Some r) base is = (replacer_with i pairs r is.0, is.1)

  updater_with : (i : Installation) (pairs : List (Id × Id)) (r : Option Id) (y : Id) (update : Lines)
      → IsUpdater i type name r y update → IsUpdater (with_pairs i pairs) type name r y update
  updater_with i pairs r y update is = record {
    installed = effect_with i pairs y is.installed;
    updates = is.updates;
    over = is.over;
  }

  decides_with : (i : Installation) (pairs : List (Id × Id)) (r : Option Id) (n : ℕ) (y : Id) (update : Lines)
      → Decides i type name r n y update → Decides (with_pairs i pairs) type name r n y update
  decides_with i pairs r n y update is = record {
    updater = updater_with i pairs r y update is.updater;
    touches = is.touches;
    over = λ z other of_z. is.over z other (updater_with (with_pairs i pairs) i.bypassed r z other of_z);
  }

  updated_with : (i : Installation) (pairs : List (Id × Id)) (r : Option Id) (base e : Element)
      → IsUpdated i type name r base e → IsUpdated (with_pairs i pairs) type name r base e
  updated_with i pairs r base e is =
      let other = with_pairs i pairs in
      record {
        rest = is.rest;
        rising = is.rising;
        umids = λ y. (
          λ there. elim ((is.umids y).0 there) [
            | inl old ↦ inl old
            | inr new ↦ inr (new.0, updater_with i pairs r y new.0 new.1)
          ],
          λ there. (is.umids y).1 (elim there [
            | inl old ↦ inl old
            | inr new ↦ inr (new.0, updater_with other i.bypassed r y new.0 new.1)
          ]),
        );
        decided = λ n y update decides. is.decided n y update (decides_with other i.bypassed r n y update decides);
        others = λ n none. is.others n (λ y update updater. none y update (updater_with i pairs r y update updater));
        numbered = λ y update updater. is.numbered y update (updater_with other i.bypassed r y update updater);
        same = λ none. is.same (λ y update updater. none y update (updater_with i pairs r y update updater));
      }

  after_with : (i : Installation) (pairs : List (Id × Id)) (e : Element) → HasElementAfter i type name e
      → HasElementAfter (with_pairs i pairs) type name e
  after_with i pairs e (r, base, has, updated) =
      (r, base, base_with i pairs r base has, updated_with i pairs r base e updated)

pub installed_with : (i : Installation) (pairs : List (Id × Id)) (new : Zone)
    → ((p : Id × Id) → Contains i.bypassed p ↔ Contains pairs p) → HasInstalled i new
    → HasInstalled (with_pairs i pairs) new
unfolding delby_after
installed_with i pairs new same is = record {
  rest = is.rest;
  is_zone = is.is_zone;
  applied = λ x effect. is.applied x (effect_of i pairs x effect);
  not_applied = λ x none. is.not_applied x (λ effect. none (effect_with i pairs x effect));
  supby_rising = is.supby_rising;
  supby = λ x y. (
    λ there. elim ((is.supby x y).0 there) [
      | inl old ↦ inl old
      | inr by ↦ inr (effect_with i pairs y by.0, by.1)
    ],
    λ there. (is.supby x y).1 (elim there [
      | inl old ↦ inl old
      | inr by ↦ inr (effect_of i pairs y by.0, by.1)
    ]),
  );
  delby = is.delby;
  waived_rising = is.waived_rising;
  waived = λ x z effect.
      let of_i = is.waived x z (effect_of i pairs x effect) in (
        λ there. let from = of_i.0 there in ((same (x, z)).0 from.0, from.1),
        λ from. of_i.1 ((same (x, z)).1 from.0, from.1),
      );
  not_waived = λ x none. is.not_waived x (λ effect. none (effect_with i pairs x effect));
  changed = λ type name x effect changes.
      let found = is.changed type name x (effect_of i pairs x effect) changes in
      (found.0, found.1, after_with type name i pairs found.0 found.2);
  unchanged = λ type name none. is.unchanged type name (λ x effect. none x (effect_with i pairs x effect));
}
