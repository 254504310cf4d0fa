-- Who takes effect: the kept SYSMODs that none of them supersedes, as no SYSMOD supersedes itself.
use Rattle.std.proofs.Common.{◌≡◌, ◌⊎◌, inl, inr, Bool, true, false, not, List, ◌++◌, refl, sym, ap}
use Rattle.std.proofs.Common.{◌∙◌, subst, true≢false, map, ℕ, ◌+◌, ◌<◌, ◌≤◌, length, take, get_or, arith}
use Rattle.std.specs.Prelude.{◌↔◌, Contains, filter}
use Rattle.std.proofs.lemmas.Bool.{not-true}
use Rattle.std.proofs.lemmas.List.Elements.{Contains-append_left, Contains-append_right, Contains-append_cases}
use Rattle.std.proofs.lemmas.List.Elements.{Contains-get_or}
use Rattle.terms.proofs.Leads.{reaches_named, reaches_last, all_reached}
use Rattle.terms.proofs.ListMembers.{none_in, in_filter, filter_in, in_map, map_in}
use Rattle.terms.proofs.TextOrder.{same_or_not}
use Rattle.terms.specs.Types.{Id}
use Rattle.terms.specs.Lookups.{is_in}
use Rattle.terms.specs.Choice.{Choice, sup_of}
use Rattle.terms.specs.Over.{Supersedes}
use Rattle.terms.specs.Install.{Installation, TakesEffect}
use Rattle.terms.proofs.Ids.{is_in_from_Contains, Contains_from_is_in}
use Rattle.sysmods.specs.Seen.{AddsAll, IsGoing}
use Rattle.sysmods.proofs.Going.{going_next, going_end}
use Rattle.sysmods.proofs.Growth.{adds_keeps, adds_cases}
use Rattle.change.specs.Superseded.{ArePaired, IsNamed, IsSuperseded, IsUnsuperseded}
use Rattle.change.proofs.Gathered.{in_more}

-- the pairs of one of these ids
pub of_these : (xs : List Id) (pairs : List (Id × Id)) (x z : Id)
    → Contains {X = Id × Id} (filter (λ p. is_in xs p.0) pairs) (x, z)
    ↔ (Contains xs x × Contains {X = Id × Id} pairs (x, z))
of_these xs pairs x z = (
  λ h. let f = filter_in (λ (p : Id × Id). is_in xs p.0) pairs (x, z) h in (Contains_from_is_in xs x f.1, f.0),
  λ h. in_filter (λ (p : Id × Id). is_in xs p.0) pairs (x, z) h.1 (is_in_from_Contains xs x h.0),
)

-- with the pairs of one id more
added_pairs : (x : Id) (ids : List Id) (old new : List (Id × Id)) → new ≡ old ++ map (λ z. (z, x)) ids
    → (z y : Id) → Contains {X = Id × Id} new (z, y) ↔ (Contains {X = Id × Id} old (z, y) ⊎ ((x ≡ y) × Contains ids z))
added_pairs x ids old new are z y = (up, down)
  where
    up : Contains {X = Id × Id} new (z, y) → Contains {X = Id × Id} old (z, y) ⊎ ((x ≡ y) × Contains ids z)
    up h =
        elim (Contains-append_cases old (map (λ z. (z, x)) ids) (z, y)
        (subst (λ l. Contains {X = Id × Id} l (z, y)) are h)) [
          | inl was ↦ inl was
          | inr added ↦
              let m = map_in (λ z. (z, x)) ids (z, y) added in
              inr (ap (λ p. p.1) m.2, subst (Contains ids) (ap (λ p. p.0) m.2) m.1)
        ]

    down : Contains {X = Id × Id} old (z, y) ⊎ ((x ≡ y) × Contains ids z) → Contains {X = Id × Id} new (z, y)
    down (inl was) = subst (λ l. Contains {X = Id × Id} l (z, y)) (sym are)
        (Contains-append_left old (map (λ z. (z, x)) ids) (z, y) was)
    down (inr added) = subst (λ l. Contains {X = Id × Id} l (z, y)) (sym are)
        (Contains-append_right old (map (λ z. (z, x)) ids) (z, y)
        (subst (λ w. Contains {X = Id × Id} (map (λ z. (z, x)) ids) (z, w)) added.0
        (in_map (λ z. (z, x)) ids z added.1)))

module _ (c : Choice) (ids : List Id) where
  -- The search from all of these SYSMODs has seen these ids, and gone through the first n of them. It begins with what
  -- the SYSMODs `from` name in SUP.
  abbrev pub IsUnderWay : List Id → List Id → ℕ → Type 0
  IsUnderWay from seen n = IsGoing (sup_of c) (IsNamed c from) (IsSuperseded c ids) seen n

  -- it begins with what one more names
  pub begun_next : (k : ℕ) (x : Id) (old new : List Id) → k < length ids → x ≡ get_or ids k x
      → AddsAll old (sup_of c x) new → IsUnderWay (take k ids) old 0 → IsUnderWay (take (k + 1) ids) new 0
  begun_next k x old new below at adds s = record {
    within = omega arith;
    sound = λ z h. elim (adds_cases old (sup_of c x) new adds z h) [
      | inl was ↦ s.sound z was
      | inr named ↦ (
        x,
        subst (Contains ids) (sym at) (Contains-get_or ids k x below),
        reaches_named (sup_of c) x z named,
      )
    ];
    first = λ z named. elim ((in_more ids k x below at named.0).0 named.1) [
      | inl was ↦ adds_keeps old (sup_of c x) new adds z (s.first z (named.0, was, named.2))
      | inr same ↦ adds.has z (subst (λ v. Contains (sup_of c v) z) (sym same) named.2)
    ];
    closed = λ y z none named. absurd (none_in y none);
  }

  -- it goes through one more
  pub seen_next : (old new : List Id) (n : ℕ) (y : Id) → n < length old → y ≡ get_or old n y
      → AddsAll old (sup_of c y) new → IsUnderWay ids old n → IsUnderWay ids new (n + 1)
  seen_next = going_next (sup_of c) (IsNamed c ids) (IsSuperseded c ids)
      (λ y z by named. (by.0, by.1, reaches_last (sup_of c) by.0 y z by.2 named))

  -- it passes over one of these SYSMODs, as it has begun with what that names
  pub seen_begun : (seen : List Id) (n : ℕ) (y : Id) → n < length seen → y ≡ get_or seen n y → Contains ids y
      → IsUnderWay ids seen n → IsUnderWay ids seen (n + 1)
  seen_begun seen n y below at begun s = record {
    within = omega (arith, below);
    sound = s.sound;
    first = s.first;
    closed = λ x z gone named. elim ((in_more seen n y below at x).0 gone) [
      | inl before ↦ s.closed x z before named
      | inr same ↦ s.first z (x, subst (Contains ids) same begun, named)
    ];
  }

  -- having gone through all, it has seen all that one of these SYSMODs supersedes
  pub seen_all : (seen : List Id) (n : ℕ) → length seen ≤ n → IsUnderWay ids seen n
      → (z : Id) → Contains seen z ↔ IsSuperseded c ids z
  seen_all seen n all s z = (
    s.sound z,
    λ by. all_reached (sup_of c) (Contains seen) by.0 (λ w named. s.first w (by.0, by.1, named))
        (going_end (sup_of c) (IsNamed c ids) (IsSuperseded c ids) seen n all s) z by.2,
  )

  -- those that are not seen then are left
  pub unsuperseded : (seen left : List Id) → ((z : Id) → Contains seen z ↔ IsSuperseded c ids z)
      → left ≡ filter (λ x. not (is_in seen x)) ids → (x : Id) → Contains left x ↔ IsUnsuperseded c ids x
  unsuperseded seen left is_seen filtered x = (
    λ h.
        let m = filter_in (λ x. not (is_in seen x)) ids x (subst (λ xs. Contains xs x) filtered h) in
        record {
          member = m.0;
          first = λ by. true≢false (sym (is_in_from_Contains seen x ((is_seen x).1 by)) ∙ not-true (is_in seen x) m.1);
        },
    λ u. subst (λ xs. Contains xs x) (sym filtered) (in_filter (λ x. not (is_in seen x)) ids x u.member
        (free u (is_in seen x) refl)),
  )
    where
      free : IsUnsuperseded c ids x → (b : Bool) → is_in seen x ≡ b → not b ≡ true
      free u false e = refl
      free u true e = absurd (u.first ((is_seen x).0 (Contains_from_is_in seen x e)))

  -- one more, with all that it supersedes
  pub paired_next : (k : ℕ) (x : Id) (old new : List (Id × Id)) (all : List Id) → k < length ids → x ≡ get_or ids k x
      → ((z : Id) → Contains all z ↔ Supersedes c x z) → new ≡ old ++ map (λ z. (z, x)) all
      → ArePaired c (take k ids) old → ArePaired c (take (k + 1) ids) new
  paired_next k x old new all below at are added so_far z y =
      let more = added_pairs x all old new added z y in
      let one = in_more ids k x below at y in (
        λ h. elim (more.0 h) [
          | inl was ↦ let p = (so_far z y).0 was in (one.1 (inl p.0), p.1)
          | inr own ↦ (one.1 (inr own.0), subst (λ v. Supersedes c v z) own.0 ((are z).0 own.1))
        ],
        λ h. more.1 (elim (one.0 h.0) [
          | inl was ↦ inl ((so_far z y).1 (was, h.1))
          | inr same ↦ inr (same, (are z).1 (subst (λ v. Supersedes c v z) (sym same) h.1))
        ]),
      )

-- Those are the ones that take effect.
pub takes_effect : (i : Installation) → ((x : Id) → ¬ Supersedes i.choice x x) → (x : Id)
    → IsUnsuperseded i.choice i.kept x ↔ TakesEffect i x
takes_effect i never_itself x = (
  λ u. record { kept = u.member; first = λ y in_kept other over. u.first (y, in_kept, over) },
  λ t. record {
    member = t.kept;
    first = λ by. elim (same_or_not by.0 x) [
      | inl itself ↦ never_itself x (subst (λ v. Supersedes i.choice v x) itself by.2)
      | inr other ↦ t.first by.0 by.1 other by.2
    ];
  },
)
