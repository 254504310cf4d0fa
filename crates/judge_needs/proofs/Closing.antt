-- The needed ids that SYSMODs supersede, from what those below them do.
use Rattle.std.proofs.Common.{◌≡◌, ◌⊎◌, inl, inr, ℕ, ◌<◌, ◌+◌, Bool, true, false, List, [], ◌∷◌, ◌++◌, Contains, All}
use Rattle.std.proofs.Common.{refl, sym, ap, ◌∙◌, subst, filter, map, take, length, get_or}
use Rattle.std.specs.Prelude.{◌↔◌, ◌||◌, not, if◌then◌else◌}
use Rattle.std.specs.Str.{bytes_eq}
use Rattle.std.proofs.lemmas.List.Elements.{All-push, Contains-append_left, Contains-append_right}
use Rattle.std.proofs.lemmas.List.Elements.{Contains-append_cases}
use Rattle.std.proofs.lemmas.Slice.Eq.{bytes_eq-Decides}
use Rattle.terms.proofs.ListMembers.{none_in, none_in_nil, in_filter, filter_in, in_map, map_in}
use Rattle.terms.proofs.Ids.{is_in_from_Contains, Contains_from_is_in}
use Rattle.terms.proofs.Leads.{reaches_named, reaches_first}
use Rattle.terms.specs.Types.{Id}
use Rattle.terms.specs.Lookups.{is_in}
use Rattle.terms.specs.Choice.{Choice, sup_of}
use Rattle.terms.specs.Over.{Supersedes}
use Rattle.terms.specs.Needs.{takes_superseder}
use Rattle.judge_system.specs.declared.stated.RequisiteOf.{RequisiteOf}
use Rattle.judge_needs.specs.declared.superseded.Closure.{Closure}
use Rattle.judge_needs.specs.Closures.{AddsBelow, AreEnough, IsClosure, SupersedesOne}
use Rattle.judge_needs.specs.Pairs.{ArePairs, AreSuperseded, IsNeeded}
use Rattle.judge_needs.proofs.Growing.{front_in}

-- whether it is the highest one, or none of those that the highest one names in SUP
abbrev pub is_asked : Id → List Id → Id → Bool
is_asked highest sup d = bytes_eq d highest || not (is_in sup d)

-- those of the named ids that the highest one does not name in SUP, and that one
pub enough_are : (c : Choice) (highest : Id) (named some : List Id) → Contains named highest
    → some ≡ filter (is_asked highest (sup_of c highest)) named → AreEnough c named some
enough_are c highest named some in_named is = record {
  of = λ x h. (filter_in asked named x (subst (λ l. Contains l x) is h)).0;
  all = λ x h. by x h (is_in (sup_of c highest) x) refl;
}
  where
    asked : Id → Bool
    asked = is_asked highest (sup_of c highest)

    among : (x : Id) → Contains named x → asked x ≡ true → Contains some x
    among x h passes = subst (λ l. Contains l x) (sym is) (in_filter asked named x h passes)

    either : (b : Bool) → (b || true) ≡ true
    either true = refl
    either false = refl

    by : (x : Id) → Contains named x → (b : Bool) → is_in (sup_of c highest) x ≡ b
        → Contains some x ⊎ ((y : Id) × Contains some y × Contains (sup_of c y) x)
    by x h true e = inr (
      highest,
      among highest in_named (ap (λ b. b || not (is_in (sup_of c highest) highest))
          ((bytes_eq-Decides highest highest).1 refl)),
      Contains_from_is_in (sup_of c highest) x e,
    )
    by x h false e =
        inl (among x h (ap (λ b. bytes_eq x highest || not b) e ∙ either (bytes_eq x highest)))

-- what these supersede of the needed ids comes in
abbrev pub AddsAll : Choice → List Id → List Id → List Id → List Id → Type 0
AddsAll c needed xs old new =
    (z : Id) → Contains new z ↔ (Contains old z ⊎ ((x : Id) × Contains xs x × SupersedesOne c needed x z))

module _ (c : Choice) (needed : List Id) where
  -- what is known, and one more of it, if it comes in
  pub known_more : (known new : List Closure) (k : Closure) (fits : Bool) → All (IsClosure c needed) known
      → IsClosure c needed k → new ≡ (if fits then known ++ k ∷ [] else known) → All (IsClosure c needed) new
  known_more known new k true all own are =
      subst (All (IsClosure c needed)) (sym are) (All-push (IsClosure c needed) known k all own)
  known_more known new k false all own are = subst (All (IsClosure c needed)) (sym are) all

  -- the needed ones among all that it supersedes
  pub needed_below : (x : Id) (all some : List Id) → ((z : Id) → Contains all z ↔ Supersedes c x z)
      → some ≡ filter (is_in needed) all → (z : Id) → Contains some z ↔ SupersedesOne c needed x z
  needed_below x all some are is z = (
    λ h.
        let f = filter_in (is_in needed) all z (subst (λ l. Contains l z) is h) in
        (Contains_from_is_in needed z f.1, (are z).0 f.0),
    λ h. subst (λ l. Contains l z) (sym is)
        (in_filter (is_in needed) all z ((are z).1 h.1) (is_in_from_Contains needed z h.0)),
  )

  pub below_none : (l : List Id) → AddsAll c needed [] l l
  below_none l z = (λ h. inl h, λ h. elim h [ inl was ↦ was | inr by ↦ absurd (none_in by.0 by.1) ])

  pub below_one : (x : Id) (ids old new : List Id) → ((z : Id) → Contains ids z ↔ SupersedesOne c needed x z)
      → new ≡ old ++ ids → AddsBelow c needed x old new
  below_one x ids old new are is z = (
    λ h. elim (Contains-append_cases old ids z (subst (λ l. Contains l z) is h)) [
      | inl was ↦ inl was
      | inr own ↦ inr ((are z).0 own)
    ],
    λ h. subst (λ l. Contains l z) (sym is) (elim h [
      | inl was ↦ Contains-append_left old ids z was
      | inr over ↦ Contains-append_right old ids z ((are z).1 over)
    ]),
  )

  -- the next one
  pub below_next : (xs : List Id) (k : ℕ) (x : Id) (old mid new : List Id) → k < length xs → x ≡ get_or xs k x
      → AddsAll c needed (take k xs) old mid → AddsBelow c needed x mid new
      → AddsAll c needed (take (k + 1) xs) old new
  below_next xs k x old mid new below at first next z = (
    λ h. elim ((next z).0 h) [
      | inl in_mid ↦ elim ((first z).0 in_mid) [
        | inl was ↦ inl was
        | inr by ↦ inr (by.0, (front_in xs k x by.0 below at).1 (inl by.1), by.2)
      ]
      | inr over ↦ inr (x, (front_in xs k x x below at).1 (inr refl), over)
    ],
    λ h. (next z).1 (elim h [
      | inl was ↦ inl ((first z).1 (inl was))
      | inr by ↦ elim ((front_in xs k x by.0 below at).0 by.1) [
        | inl front ↦ inl ((first z).1 (inr (by.0, front, by.2)))
        | inr same ↦ inr (subst (λ v. SupersedesOne c needed v z) same by.2)
      ]
    ]),
  )

  -- what a SYSMOD supersedes is what it names in SUP and what enough of these supersede
  pub all_below : (x : Id) (some named found : List Id) → AreEnough c (sup_of c x) some
      → named ≡ filter (is_in needed) (sup_of c x) → AddsAll c needed some named found
      → (z : Id) → Contains found z ↔ SupersedesOne c needed x z
  all_below x some named found enough is adds z = (λ h. up ((adds z).0 h), λ h. (adds z).1 (down h.0 h.1))
    where
      up : Contains named z ⊎ ((y : Id) × Contains some y × SupersedesOne c needed y z) → SupersedesOne c needed x z
      up (inl h) =
          let f = filter_in (is_in needed) (sup_of c x) z (subst (λ l. Contains l z) is h) in
          (Contains_from_is_in needed z f.1, reaches_named (sup_of c) x z f.0)
      up (inr (y, in_some, over)) = (over.0, reaches_first (sup_of c) x y z (enough.of y in_some) over.1)

      down : Contains needed z → Supersedes c x z
          → Contains named z ⊎ ((y : Id) × Contains some y × SupersedesOne c needed y z)
      down need ([], direct) = inl (subst (λ l. Contains l z) (sym is)
          (in_filter (is_in needed) (sup_of c x) z direct (is_in_from_Contains needed z need)))
      down need (y ∷ ys, steps) = elim (enough.all y steps.0) [
        | inl in_some ↦ inr (y, in_some, (need, (ys, steps.1)))
        | inr by ↦ inr (by.0, by.1, (need, reaches_first (sup_of c) by.0 y z by.2 (ys, steps.1)))
      ]

module _ (needs : List RequisiteOf) (needed : List Id)
    (same : (z : Id) → Contains needed z
    ↔ Contains (map (λ (w : RequisiteOf). w.id) (filter (λ w. takes_superseder w.kind) needs)) z) where
  abbrev served : List RequisiteOf
  served = filter (λ w. takes_superseder w.kind) needs

  -- the ids that somebody needs where a superseder serves
  are_needed : (z : Id) → Contains needed z ↔ IsNeeded needs z
  are_needed z = (
    λ h.
        let m = map_in (λ (w : RequisiteOf). w.id) served z ((same z).0 h) in
        let f = filter_in (λ w. takes_superseder w.kind) needs m.0 m.1 in
        (m.0, f.0, f.1, m.2),
    λ w. (same z).1 (subst (Contains (map (λ (w : RequisiteOf). w.id) served)) w.3
        (in_map (λ (w : RequisiteOf). w.id) served w.0 (in_filter (λ w. takes_superseder w.kind) needs w.0 w.1 w.2))),
  )

  pub pairs_needed : (c : Choice) (xs : List Id) (pairs : List (Id × Id)) → ArePairs (SupersedesOne c needed) xs pairs
      → AreSuperseded c needs xs pairs
  pairs_needed c xs pairs are x z = (
    λ h. let m = (are x z).0 h in (m.0, ((are_needed z).0 m.1.0, m.1.1)),
    λ h. (are x z).1 (h.0, ((are_needed z).1 h.1.0, h.1.1)),
  )

  -- where nothing is needed, there are none
  pub none_needed : (c : Choice) (xs : List Id) (pairs : List (Id × Id)) → needed ≡ [] → pairs ≡ []
      → AreSuperseded c needs xs pairs
  none_needed c xs pairs is empty x z = (
    λ h. none_in_nil pairs (x, z) empty h,
    λ h. none_in_nil needed z is ((are_needed z).1 h.1.0),
  )
