-- Without loops, and where few ids name any, no walk is long: so one id leads to another or does not.
use Rattle.std.proofs.Common.{◌≡◌, ◌≢◌, ◌⊎◌, ◌<◌, ◌∙◌, inl, inr, ℕ, zero, suc, Bool, true, false, List, [], ◌∷◌, length}
use Rattle.std.proofs.Common.{Contains, get_or, refl, sym, subst, true≢false, arith}
use Rattle.std.specs.Prelude.{◌||◌}
use Rattle.std.specs.List.{list_any}
use Rattle.std.proofs.lemmas.Bool.{or_left, or_right, or_cases}
use Rattle.std.proofs.lemmas.List.Elements.{Contains-get_or}
use Rattle.std.proofs.lemmas.List.Folds.{Any-from_list_any, list_any-from_Any}
use Rattle.std.proofs.lemmas.List.Kept.{AllPairs-cons}
use Rattle.terms.proofs.Apart.{AreApart, apart_le}
use Rattle.terms.proofs.ListMembers.{here_or, none_in}
use Rattle.terms.specs.Types.{Id}
use Rattle.terms.specs.Lookups.{is_in}
use Rattle.terms.specs.Over.{Leads, Reaches}
use Rattle.terms.proofs.Ids.{is_in_from_Contains, Contains_from_is_in}
use Rattle.terms.proofs.Leads.{reaches_named, reaches_first}

module _ (next : Id → List Id) where
  -- whether it leads there by this many steps at most
  leads_in : ℕ → Id → Id → Bool
  leads_in zero x z = false
  leads_in (suc n) x z = is_in (next x) z || list_any (λ y. leads_in n y z) (next x)

  reaches_from : (n : ℕ) (x z : Id) → leads_in n x z ≡ true → Reaches next x z
  unfolding leads_in
  reaches_from zero x z leads = absurd (true≢false (sym leads))
  reaches_from (suc n) x z leads =
      elim (or_cases (is_in (next x) z) (list_any (λ y. leads_in n y z) (next x)) leads) [
        | inl named ↦ reaches_named next x z (Contains_from_is_in (next x) z named)
        | inr on ↦
            let any = Any-from_list_any (λ y. leads_in n y z) (next x) on in
            reaches_first next x any.1 z (any.0, any.2, any.3) (reaches_from n any.1 z any.4)
      ]

  leads_by : (n : ℕ) (x z : Id) (between : List Id) → Leads next x between z → length between < n
      → leads_in n x z ≡ true
  unfolding leads_in
  leads_by zero x z between leads short = absurd (omega (arith, short))
  leads_by (suc n) x z [] leads short =
      or_left (is_in (next x) z) (list_any (λ y. leads_in n y z) (next x)) (is_in_from_Contains (next x) z leads)
  leads_by (suc n) x z (y ∷ ys) leads short =
      let named = leads.0 in
      or_right (is_in (next x) z) (list_any (λ y. leads_in n y z) (next x))
      (list_any-from_Any (λ y. leads_in n y z) (next x)
      (named.0, y, named.1, named.2, leads_by n y z ys leads.1 (omega (arith, short))))

  -- what a walk passes is reached
  passed : (x z : Id) (between : List Id) → Leads next x between z → (y : Id) → Contains between y → Reaches next x y
  passed x z [] leads y is = absurd (none_in y is)
  passed x z (w ∷ ws) leads y is = elim (here_or w ws y is) [
    | inl same ↦ reaches_named next x y (subst (Contains (next x)) same leads.0)
    | inr later ↦ reaches_first next x w y leads.0 (passed w z ws leads.1 y later)
  ]

  -- There is no loop, and what names anything is among the ids.
  module _ (ids : List Id) (named : (x y : Id) → Contains (next x) y → Contains ids x)
      (no_loop : (x : Id) → ¬ Reaches next x x) where
    walk_within : (x z : Id) (between : List Id) → Leads next x between z → (y : Id) → Contains (x ∷ between) y
        → Contains ids y
    walk_within x z [] leads y is = elim (here_or x [] y is) [
      | inl same ↦ subst (Contains ids) same (named x z leads)
      | inr later ↦ absurd (none_in y later)
    ]
    walk_within x z (w ∷ ws) leads y is = elim (here_or x (w ∷ ws) y is) [
      | inl same ↦ subst (Contains ids) same (named x w leads.0)
      | inr later ↦ walk_within w z ws leads.1 y later
    ]

    walk_apart : (x z : Id) (between : List Id) → Leads next x between z → AreApart (x ∷ between)
    walk_apart x z [] leads = λ i j d before below same. omega (arith, before, below)
    walk_apart x z (w ∷ ws) leads =
        AllPairs-cons (λ a b. a ≢ b) x (w ∷ ws)
        (λ k d below same. no_loop x (subst (Reaches next x) (sym same)
        (passed x z (w ∷ ws) leads (get_or (w ∷ ws) k d) (Contains-get_or (w ∷ ws) k d below))))
        (walk_apart w z ws leads.1)

    walk_short : (x z : Id) (between : List Id) → Leads next x between z → length between < length ids
    walk_short x z between leads =
        let few = apart_le (x ∷ between) ids (walk_apart x z between leads) (walk_within x z between leads) in
        omega (arith, few)

    pub reaches_or_not : (x z : Id) → Reaches next x z ⊎ (¬ Reaches next x z)
    reaches_or_not x z = by (leads_in (length ids) x z) refl
      where
        by : (b : Bool) → leads_in (length ids) x z ≡ b → Reaches next x z ⊎ (¬ Reaches next x z)
        by true is = inl (reaches_from (length ids) x z is)
        by false is = inr (λ to. true≢false (sym (leads_by (length ids) x z to.0 to.1 (walk_short x z to.0 to.1)) ∙ is))
