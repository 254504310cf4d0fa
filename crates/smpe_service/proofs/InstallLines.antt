-- Lines by id are those of an install, where each of their ids has its status, and no other id has one.
use Rattle.std.proofs.Common.{◌≡◌, true, List, [], ◌∷◌, map, refl, sym, ap, ◌∙◌, subst}
use Rattle.std.specs.Prelude.{Contains, find}
use Rattle.std.specs.Ordering.{nat_cmp}
use Rattle.std.specs.Cmp.Lexicographic.{slice_cmp, texts_ties}
use Rattle.std.specs.Str.{bytes_eq}
use Rattle.std.specs.Option.{option_map_or}
use Rattle.std.proofs.lemmas.Cmp.{nat_list_cmp_total}
use Rattle.terms.specs.Types.{Id, Global, Selection}
use Rattle.terms.specs.Lookups.{is_before}
use Rattle.terms.specs.Rising.{Rises}
use Rattle.terms.proofs.ListMembers.{here, there, map_in}
use Rattle.terms.proofs.Pairs.{pairs_map}
use Rattle.terms.proofs.TextOrder.{same_itself}
use Rattle.machine.specs.Outcome.{Status, Applied, Line, StatusLine}
use Rattle.machine.specs.Receiving.{place_of}
use Rattle.machine.specs.Installing.{Decision, HasStatus, AreInstallLines}
use Rattle.sorted.proofs.InTurn.{find_member}
use Rattle.smpe_service.specs.Statuses.{status_line}

module _ (found : List (Id × Status)) where
  -- the status of an id; of another one this is any
  status_in : Id → Status
  status_in x = option_map_or (λ p. p.1) (find (λ p. bytes_eq p.0 x) found) Applied

  status_is : Rises (slice_cmp nat_cmp) (λ p. p.0) found → (p : Id × Status) → Contains found p → status_in p.0 ≡ p.1
  unfolding status_in
  status_is rises p h =
      ap (λ o. option_map_or (λ p. p.1) o Applied) (find_member nat_list_cmp_total (λ (p : Id × Status). p.0) bytes_eq
      texts_ties found p p.0 rises h (same_itself p.0))

-- lines as a function of the ids
lines_by_ids : (g : Global) (status : Id → Status) (found : List (Id × Status))
    → ((p : Id × Status) → Contains found p → status p.0 ≡ p.1)
    → map (status_line g) found ≡ map (λ x. StatusLine x (place_of g x) (status x)) (map (λ p. p.0) found)
lines_by_ids g status [] is = refl
lines_by_ids g status (p ∷ found) is =
    let first : status_line g p ≡ StatusLine p.0 (place_of g p.0) (status p.0) =
    ap (StatusLine p.0 (place_of g p.0)) (sym (is p (here p found))) in
    let rest = lines_by_ids g status found (λ q h. is q (there p found q h)) in
    cc

pub are_install_lines : (d : Decision) (sel : Selection) (found : List (Id × Status)) (lines : List Line)
    → Rises (slice_cmp nat_cmp) (λ p. p.0) found
    → lines ≡ map (status_line d.setting.global) found
    → ((p : Id × Status) → Contains found p → HasStatus d sel p.0 p.1)
    → ((x : Id) (s : Status) → HasStatus d sel x s → Contains (map (λ p. p.0) found) x)
    → AreInstallLines d sel lines
are_install_lines d sel found lines rises lines_are each all = record {
  ids = map (λ p. p.0) found;
  rising = pairs_map (λ p q. is_before p.0 q.0 ≡ true) (λ x y. is_before x y ≡ true) (λ p. p.0) (λ p q h. h) found
      rises;
  status = status_in found;
  lines_are = lines_are ∙ lines_by_ids d.setting.global (status_in found) found (status_is found rises);
  each = λ x h.
      let m = map_in (λ (p : Id × Status). p.0) found x h in
      subst (λ y. HasStatus d sel y (status_in found y)) m.2
      (subst (HasStatus d sel m.0.0) (sym (status_is found rises m.0 m.1)) (each m.0 m.1));
  all = all;
}
