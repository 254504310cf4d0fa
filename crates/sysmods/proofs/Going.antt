-- A search: all that is seen is reached, and what the first ones name is seen.
use Rattle.std.proofs.Common.{◌≡◌, ℕ, ◌<◌, ◌≤◌, ◌+◌, ◌⊎◌, inl, inr, ◌↔◌, ◌||◌, Bool, true, false, IsTrue, refl, List}
use Rattle.std.proofs.Common.{[], length, take, get_or, Contains, sym, subst, ap, ◌∙◌, length-append, arith}
use Rattle.std.proofs.lemmas.List.{take_more, take_all}
use Rattle.std.proofs.lemmas.List.Elements.{Contains-push_cases, Contains-get_or}
use Rattle.terms.specs.Types.{Id}
use Rattle.terms.specs.Lookups.{is_in}
use Rattle.terms.specs.Over.{Reaches}
use Rattle.terms.proofs.Ids.{Contains_from_is_in, is_in_from_Contains}
use Rattle.terms.proofs.Leads.{reaches_named, reaches_last, all_reached, reaches_back}
use Rattle.sysmods.specs.Seen.{AddsAll, IsGoing, IsSearch, IsTurned}
use Rattle.sysmods.proofs.Growth.{adds_keeps, adds_cases, take_adds}

-- A search that begins with some ids and goes on to what each one names.
module _ (next : Id → List Id) (Begins Belongs : Id → Type 0) where
  pub going_start : (named seen : List Id) → ((z : Id) → Contains named z → Belongs z)
      → ((z : Id) → Begins z → Contains named z)
      → AddsAll [] named seen → IsGoing next Begins Belongs seen 0
  going_start named seen belongs begins adds = record {
    within = omega arith;
    sound = λ z h. elim (adds_cases [] named seen adds z h) [
      | inl none ↦ absurd (omega (arith, none.1))
      | inr there ↦
          belongs z there
    ];
    first = λ z first. adds.has z (begins z first);
    closed = λ y z none named. absurd (omega (arith, none.1));
  }

  -- it goes through one more
  going_more : ((y z : Id) → Belongs y → Contains (next y) z → Belongs z) → (old new : List Id) (n : ℕ) (d : Id)
      → n < length old
      → AddsAll old (next (get_or old n d)) new → IsGoing next Begins Belongs old n
      → IsGoing next Begins Belongs new (n + 1)
  going_more step old new n d below adds s = record {
    within = omega (arith, ap length adds.kept ∙ length-append old adds.added);
    sound = λ z h. elim (adds_cases old _ new adds z h) [
      | inl was ↦ s.sound z was
      | inr named ↦ step _ z (s.sound _ (Contains-get_or old n d below)) named
    ];
    first = λ z first. adds_keeps old _ new adds z (s.first z first);
    closed = λ y z gone named.
        let gone_old : Contains (take (n + 1) old) y = subst (λ ks. Contains ks y)
        (take_adds old _ new (n + 1) adds (omega arith)) gone in
        elim (Contains-push_cases (take n old) (get_or old n d) y
        (subst (λ ks. Contains ks y) (take_more old n d below) gone_old)) [
          | inl before ↦ adds_keeps old _ new adds z (s.closed y z before named)
          | inr this ↦ adds.has z (subst (λ w. Contains (next w) z) (sym this) named)
        ];
  }

  -- the same, of the one that stands next
  pub going_next : ((y z : Id) → Belongs y → Contains (next y) z → Belongs z) → (old new : List Id) (n : ℕ) (y : Id)
      → n < length old
      → y ≡ get_or old n y → AddsAll old (next y) new → IsGoing next Begins Belongs old n
      → IsGoing next Begins Belongs new (n + 1)
  going_next step old new n y below at adds s = going_more step old new n y below
      (subst (λ w. AddsAll old (next w) new) at adds) s

  -- having gone through all, it has seen what they name
  pub going_end : (seen : List Id) (n : ℕ) → length seen ≤ n → IsGoing next Begins Belongs seen n
      → (y z : Id) → Contains seen y → Contains (next y) z → Contains seen z
  going_end seen n all s y z there named = s.closed y z (subst (λ ks. Contains ks y) (sym (take_all n seen all)) there)
      named

module _ (next : Id → List Id) (x : Id) where
  -- it begins with what x names
  pub search_start : (seen : List Id) → AddsAll [] (next x) seen → IsSearch next x seen 0
  search_start seen adds = going_start next _ _ (next x) seen (reaches_named next x) (λ z named. named) adds

  -- it goes through the one that stands next
  pub search_next : (old new : List Id) (n : ℕ) (y : Id) → n < length old → y ≡ get_or old n y
      → AddsAll old (next y) new → IsSearch next x old n → IsSearch next x new (n + 1)
  search_next old new n y below at adds s = going_next next _ _ (reaches_last next x) old new n y below at adds s

  -- having gone through all, it has seen all that x reaches
  pub search_end : (seen : List Id) (n : ℕ) → length seen ≤ n → IsSearch next x seen n → (z : Id) → Reaches next x z
      → Contains seen z
  search_end seen n all s z reached = all_reached next (Contains seen) x s.first (going_end next _ _ seen n all s) z
      reached

-- Two searches, one from x and one from z against the direction: one that has gone through all tells whether x leads
-- to z.
module _ (next back : Id → List Id) (turned : IsTurned next back) (x z : Id) (ahead behind : List Id) (n m : ℕ)
    (from_x : IsSearch next x ahead n) (from_z : IsSearch back z behind m) where
  -- where they have met, it does
  pub both_met : IsTrue (is_in ahead z || is_in behind x) → Reaches next x z
  both_met met = by (is_in ahead z) refl
    where
      by : (b : Bool) → is_in ahead z ≡ b → Reaches next x z
      by true e = from_x.sound z (Contains_from_is_in ahead z e)
      by false e =
          reaches_back back next (λ y w. (turned w y).1) z x
          (from_z.sound x (Contains_from_is_in behind x (sym (ap (λ b. b || is_in behind x) e) ∙ met)))

  pub both_tell : (length ahead ≤ n) ⊎ (length behind ≤ m) → IsTrue (is_in ahead z || is_in behind x) ↔ Reaches next x z
  both_tell ended = (both_met, λ reached. told reached ended)
    where
      either : (a b : Bool) → IsTrue b → IsTrue (a || b)
      either true b h = refl
      either false b h = h

      told : Reaches next x z → (length ahead ≤ n) ⊎ (length behind ≤ m) → IsTrue (is_in ahead z || is_in behind x)
      told reached (inl all) =
          ap (λ b. b || is_in behind x) (is_in_from_Contains ahead z (search_end next x ahead n all from_x z reached))
      told reached (inr all) =
          either (is_in ahead z) (is_in behind x)
          (is_in_from_Contains behind x (search_end back z behind m all from_z x
          (reaches_back next back (λ y w. (turned y w).0) x z reached)))
