-- The lists of an install.
use Rattle.std.proofs.Common.{inl, inr, List, ◌++◌, refl, map}
use Rattle.std.specs.Prelude.{◌↔◌, Contains}
use Rattle.std.proofs.lemmas.List.Elements.{Contains-append_left, Contains-append_right}
use Rattle.terms.proofs.ListMembers.{in_map}
use Rattle.terms.specs.Types.{Id}
use Rattle.terms.specs.Install.{Installation, TakesEffect}
use Rattle.change.specs.Deleting.{at_stake}
use Rattle.sorted.specs.MultiMap.{MultiMap}
use Rattle.change.specs.Pairs.{AreGrouped}
use Rattle.change.specs.Plans.{IsPlan}
use Rattle.change.specs.Superseded.{ArePaired}

abbrev first : Id × Id → Id
first p = p.0

pub is_plan : (i : Installation) (dels effective touched : List Id) (pairs : List (Id × Id))
    (superseders by_id : MultiMap Id Id)
    → ((x : Id) → Contains effective x ↔ TakesEffect i x)
    → ArePaired i.choice effective pairs
    → ((x : Id) → Contains touched x ↔ Contains ((map first pairs ++ effective) ++ at_stake i.zone dels) x)
    → AreGrouped pairs superseders → AreGrouped i.bypassed by_id
    → IsPlan i dels (record {
      effective = effective;
      superseders = superseders;
      bypassed = by_id;
      touched = touched;
      date = i.date;
    })
is_plan i dels effective touched pairs superseders by_id effect are all_touched gathered waived = record {
  effective = effect;
  superseders = λ x y. (
    λ h. let by = (are x y).0 ((gathered x y).0 h) in ((effect y).0 by.0, by.1),
    λ h. (gathered x y).1 ((are x y).1 ((effect y).1 h.0, h.1)),
  );
  bypassed = waived;
  touched = λ x h. (all_touched x).1 (elim h [
    | inl changes ↦ Contains-append_left (map first pairs ++ effective) (at_stake i.zone dels) x (elim changes [
      | inl own ↦ Contains-append_right (map first pairs) effective x own
      | inr by ↦ Contains-append_left (map first pairs) effective x (in_map first pairs (x, by.0)
          ((gathered x by.0).0 by.1))
    ])
    | inr deleted ↦ Contains-append_right (map first pairs ++ effective) (at_stake i.zone dels) x deleted
  ]);
  date = refl;
}
