-- The numbers that a choice picks are those of the ++VERs that count.
use Rattle.std.proofs.Common.{◌≡◌, ◌≤◌, ◌<◌, ◌+◌, ◌-◌, ℕ, Bool, true, false, List, [], ◌∷◌, filter, find, map, length}
use Rattle.std.proofs.Common.{Option, None, Some, is_some, IsTrue, arith, refl, sym, ap, ◌∙◌}
use Rattle.std.specs.Prelude.{position, nat_lt, unwrap_or, if◌then◌else◌}
use Rattle.std.specs.Ordering.{nat_cmp}
use Rattle.std.specs.Cmp.Lexicographic.{slice_cmp, texts_ties}
use Rattle.std.specs.Option.{option_map, option_map_or, option_and_then}
use Rattle.std.specs.Str.{bytes_eq}
use Rattle.std.proofs.lemmas.Bool.{ltb-true, ltb-false}
use Rattle.std.proofs.lemmas.Cmp.{nat_list_cmp_total}
use Rattle.std.proofs.lemmas.List.Kept.{AllPairs-filter}
use Rattle.std.proofs.lemmas.List.Quantifiers.{position-Some}
use Rattle.std.proofs.lemmas.List.Sums.{length-filter, count_by-le-length}
use Rattle.std.proofs.lemmas.Option.{none-some}
use Rattle.std.proofs.lemmas.Slice.Eq.{bytes_eq-Decides}
use Rattle.terms.proofs.Pairs.{pairs_map}
use Rattle.terms.proofs.Searches.{find_passes}
use Rattle.terms.specs.Types.{Id, Sysmod, Global, Applied, Entry, Zone}
use Rattle.terms.specs.Rising.{Rises}
use Rattle.terms.specs.Global.{IsGlobal}
use Rattle.terms.specs.Lookups.{is_in, is_before, sysmod_of, entry_of, is_applied, IsZone}
use Rattle.terms.specs.Choice.{vers_of, fits, place}
use Rattle.sysmods.specs.declared.ver_choice.Pick.{Pick}
use Rattle.sysmods.specs.Choices.{picked}
use Rattle.zones.specs.Picks.{a_pick, is_further, kept_pick, fitting_pick}
use Rattle.zones.proofs.Filtered.{passing, find_filter}
use Rattle.terms.proofs.Searches.{find_mapped}

-- what is found among some items stands at a place that they all have
pub place_below : {X : Type 0} (p q : X → Bool) (xs : List X) (n : ℕ) → position p (filter q xs) ≡ Some n
    → n < length xs
place_below {X = X} p q xs n e = by (filter q xs) refl
  where
    by : (ys : List X) → filter q xs ≡ ys → n < length xs
    by [] is = absurd (none-some n (sym (ap (position p) is) ∙ e))
    by (y ∷ ys) is =
        let below : n < length (filter q xs) = (position-Some p (filter q xs) n y e).0 in
        omega (arith, length-filter q xs, count_by-le-length q xs)

-- the number of a pick, unless it is that of the first
abbrev further : Option Pick → Option ℕ
further o = option_map (λ p. p.number) (passing is_further o)

module _ {X : Type 0} (id_of : X → Id) (pick : X → Pick) (same : (x : X) → (pick x).id ≡ id_of x) (xs : List X)
    (rises : Rises (slice_cmp nat_cmp) id_of xs) where
  abbrev picks : List Pick
  picks = filter is_further (map pick xs)

  picks_mapped : Rises (slice_cmp nat_cmp) (λ p. p.id) (map pick xs)
  picks_mapped =
      pairs_map (λ x y. IsTrue (is_before (id_of x) (id_of y))) (λ (p q : Pick). IsTrue (is_before p.id q.id)) pick
      (λ x y low. rw (same x, same y) low) xs rises

  pub picks_rise : Rises (slice_cmp nat_cmp) (λ p. p.id) picks
  picks_rise = AllPairs-filter (λ (p q : Pick). IsTrue (is_before p.id q.id)) is_further (map pick xs) picks_mapped

  pub picked_is : (x : Id) → picked picks x ≡ further (option_map pick (find (λ y. bytes_eq (id_of y) x) xs))
  picked_is x =
      ap (option_map (λ p. p.number))
      (find_filter nat_list_cmp_total (λ (p : Pick). p.id) bytes_eq texts_ties is_further x (map pick xs) picks_mapped
      ∙ ap (passing is_further)
      (find_mapped (λ y. bytes_eq (id_of y) x) (λ p. bytes_eq p.id x) pick (λ y. ap (λ t. bytes_eq t x) (same y)) xs))

-- where 1 stands for what is not picked
or_one : (x : Id) (n : ℕ) → 1 ≤ n → unwrap_or (further (Some (a_pick x n))) 1 ≡ n
or_one x n low = by (nat_lt 1 n) refl
  where
    by : (b : Bool) → nat_lt 1 n ≡ b → unwrap_or (further (Some (a_pick x n))) 1 ≡ n
    by true e = rw e refl
    by false e = let most : n ≤ 1 = ltb-false 1 n e in rw e (omega arith)

-- what an entry says comes first
kept_first : (x : Id) (a : Option Applied) (n : ℕ)
    → unwrap_or (further (Some (a_pick x (option_map_or (λ b. b.number) a 1)))) (if is_some a then 1 else n + 1)
    ≡ option_map_or (λ b. b.number - 1) a n + 1
kept_first x None n = refl
kept_first x (Some a) n = by (nat_lt 1 a.number) refl
  where
    by : (b : Bool) → nat_lt 1 a.number ≡ b
        → unwrap_or (further (Some (a_pick x a.number))) 1 ≡ a.number - 1 + 1
    by true e = let more = ltb-true 1 a.number e in rw e (omega arith)
    by false e = let most : a.number ≤ 1 = ltb-false 1 a.number e in rw e (omega arith)

kept_of : (o : Option Entry) (n : ℕ)
    → unwrap_or (further (option_map kept_pick o)) (if option_map_or (λ e. is_some e.applied) o false then 1 else n + 1)
    ≡ option_map_or (λ a. a.number - 1) (option_and_then (λ e. e.applied) o) n + 1
kept_of None n = refl
kept_of (Some e) n = kept_first e.id e.applied n

module _ (g : Global) (zone : Zone) (cands : List Id) (is : IsGlobal g) (z : IsZone zone) where
  abbrev first_place : Id → ℕ
  first_place x = unwrap_or (position (fits zone (is_in cands)) (vers_of g zone.srel x)) 0

  fitting_of : (x : Id) → unwrap_or (picked (filter is_further (map (fitting_pick zone cands) g.sysmods)) x) 1
      ≡ (if is_applied zone x then 1 else first_place x + 1)
  fitting_of x =
      ap (λ o. unwrap_or o 1)
      (picked_is (λ s. s.id) (fitting_pick zone cands) (λ s. refl) g.sysmods is.sysmods x)
      ∙ by (sysmod_of g x) refl
    where
      among : Option Sysmod → ℕ
      among o = unwrap_or (position (fits zone (is_in cands))
          (option_map_or (λ s. filter (λ v. bytes_eq v.srel zone.srel) s.vers) o [])) 0

      one : ℕ
      one = 1

      either : (b : Bool) → one ≡ (if b then one else one)
      either true = refl
      either false = refl

      low : (b : Bool) (n : ℕ) → 1 ≤ (if b then 1 else n + 1)
      low true n = omega arith
      low false n = omega arith

      by : (o : Option Sysmod) → sysmod_of g x ≡ o
          → unwrap_or (further (option_map (fitting_pick zone cands) o)) 1
          ≡ (if is_applied zone x then 1 else among (sysmod_of g x) + 1)
      by None e = rw e (either (is_applied zone x))
      by (Some s) e =
          let same : s.id ≡ x = (bytes_eq-Decides s.id x).0 (find_passes (λ r. bytes_eq r.id x) g.sysmods s e) in
          or_one s.id _ (low (is_applied zone s.id) (among (Some s)))
          ∙ ap (λ y. if is_applied zone y then 1 else among (Some s) + 1) same
          ∙ ap (λ o. if is_applied zone x then 1 else among o + 1) (sym e)

  pub numbers_are : (x : Id) → unwrap_or (picked (filter is_further (map kept_pick zone.entries)) x)
      (unwrap_or (picked (filter is_further (map (fitting_pick zone cands) g.sysmods)) x) 1)
      ≡ place g zone cands x + 1
  numbers_are x =
      ap (λ o. unwrap_or o (unwrap_or (picked (filter is_further (map (fitting_pick zone cands) g.sysmods)) x) 1))
      (picked_is (λ (e : Entry). e.id) kept_pick (λ e. refl) zone.entries z.entries x)
      ∙ ap (unwrap_or (further (option_map kept_pick (entry_of zone x)))) (fitting_of x)
      ∙ kept_of (entry_of zone x) (first_place x)
