-- Lists of ids that lead from one to another.
use Rattle.std.proofs.Common.{◌≡◌, ◌≢◌, ◌⊎◌, inl, inr, List, [], ◌∷◌, ◌++◌, Contains, subst}
use Rattle.terms.proofs.TextOrder.{same_or_not}
use Rattle.terms.specs.Types.{Id}
use Rattle.terms.specs.Over.{Leads, Reaches}

module _ (next : Id → List Id) where
  -- what x names, x reaches
  pub reaches_named : (x z : Id) → Contains (next x) z → Reaches next x z
  reaches_named x z named = ([], named)

  -- two lists that meet at y
  pub leads_append : (x y z : Id) (first second : List Id)
      → Leads next x first y → Leads next y second z → Leads next x (first ++ y ∷ second) z
  leads_append x y z [] second to from = (to, from)
  leads_append x y z (w ∷ first) second to from = (to.0, leads_append w y z first second to.1 from)

  pub reaches_through : (x y z : Id) → Reaches next x y → Reaches next y z → Reaches next x z
  reaches_through x y z to from = (to.0 ++ y ∷ from.0, leads_append x y z to.0 from.0 to.1 from.1)

  -- a first step, and a last one
  pub reaches_first : (x y z : Id) → Contains (next x) y → Reaches next y z → Reaches next x z
  reaches_first x y z named from = (y ∷ from.0, (named, from.1))

  pub reaches_last : (x y z : Id) → Reaches next x y → Contains (next y) z → Reaches next x z
  reaches_last x y z to named = reaches_through x y z to (reaches_named y z named)

  -- What x reaches is named by x or by something that x reaches.
  pub last_step : (x z : Id) → Reaches next x z → Contains (next x) z
      ⊎ ((y : Id) × Reaches next x y × Contains (next y) z)
  last_step x z (between, leads) = by x between leads
    where
      after : (x w z : Id) → Contains (next x) w
          → Contains (next w) z ⊎ ((y : Id) × Reaches next w y × Contains (next y) z)
          → (y : Id) × Reaches next x y × Contains (next y) z
      after x w z named (inl direct) = (w, reaches_named x w named, direct)
      after x w z named (inr (y, to, last)) = (y, reaches_first x w y named to, last)

      by : (x : Id) (between : List Id) → Leads next x between z
          → Contains (next x) z ⊎ ((y : Id) × Reaches next x y × Contains (next y) z)
      by x [] named = inl named
      by x (w ∷ ws) leads = inr (after x w z leads.0 (by w ws leads.1))

  -- A property of all that x names, which each id with it hands on to what it names, is one of all that x reaches.
  pub all_reached : (P : Id → Type 0) (x : Id)
      → ((z : Id) → Contains (next x) z → P z)
      → ((y z : Id) → P y → Contains (next y) z → P z)
      → (z : Id) → Reaches next x z → P z
  all_reached P x named closed z (between, leads) = by x between named leads
    where
      by : (x : Id) (between : List Id) → ((z : Id) → Contains (next x) z → P z) → Leads next x between z → P z
      by x [] named leads = named z leads
      by x (y ∷ ys) named leads = by y ys (λ w. closed y w (named y leads.0)) leads.1

-- where more is named, no less is reached
pub reaches_more : (next more : Id → List Id) → ((y z : Id) → Contains (next y) z → Contains (more y) z)
    → (x z : Id) → Reaches next x z → Reaches more x z
reaches_more next more within x z reached =
    all_reached next (Reaches more x) x (λ w named. reaches_named more x w (within x w named))
    (λ y w to named. reaches_last more x y w to (within y w named)) z reached

-- An id x comes to name more: `more` names for x whatever it does, and for others what `next` names.
module _ (next more : Id → List Id) (x : Id) (others : (y : Id) → y ≢ x → more y ≡ next y) where
  -- it is x or reaches x, and x reaches z
  Passes : Id → Id → Type 0
  Passes y z = ((y ≡ x) ⊎ Reaches more y x) × Reaches more x z

  passes_first : (y w z : Id) → Contains (more y) w → Passes w z → Passes y z
  unfolding Passes
  passes_first y w z named (inl same, from) = (
    inr (reaches_named more y x (subst (Contains (more y)) same named)),
    from,
  )
  passes_first y w z named (inr to, from) = (inr (reaches_first more y w x named to), from)

  passes_here : (y z : Id) → y ≡ x → Reaches more y z → Passes y z
  unfolding Passes
  passes_here y z same to = (inl same, subst (λ w. Reaches more w z) same to)

  -- A list from y to z is one of `next` too, or passes x.
  leads_or_passes : (y z : Id) (between : List Id) → Leads more y between z → Leads next y between z ⊎ Passes y z
  leads_or_passes y z between leads = by y between (same_or_not y x) leads
    where
      old : (y w : Id) → y ≢ x → Contains (more y) w → Contains (next y) w
      old y w other named = subst (λ ws. Contains ws w) (others y other) named

      on : (y w : Id) (ws : List Id) → y ≢ x → Contains (more y) w
          → Leads next w ws z ⊎ Passes w z → Leads next y (w ∷ ws) z ⊎ Passes y z
      on y w ws other named (inl leads) = inl (old y w other named, leads)
      on y w ws other named (inr passes) = inr (passes_first y w z named passes)

      by : (y : Id) (between : List Id) → (y ≡ x) ⊎ (y ≢ x) → Leads more y between z
          → Leads next y between z ⊎ Passes y z
      by y between (inl same) leads = inr (passes_here y z same (between, leads))
      by y [] (inr other) named = inl (old y z other named)
      by y (w ∷ ws) (inr other) leads = on y w ws other leads.0 (by w ws (same_or_not w x) leads.1)

  round : (y : Id) → Passes y y → Reaches more x x
  unfolding Passes
  round y (inl same, from) = subst (Reaches more x) same from
  round y (inr to, from) = reaches_through more x y x from to

  -- Where nothing led to itself before, a loop passes x: then x leads to itself.
  pub loop_through : ((y : Id) → ¬ Reaches next y y) → (y : Id) → Reaches more y y → Reaches more x x
  loop_through none y (between, leads) = by (leads_or_passes y y between leads)
    where
      by : Leads next y between y ⊎ Passes y y → Reaches more x x
      by (inl was) = absurd (none y (between, was))
      by (inr passes) = round y passes

-- Where `back` gives for each id those that name it, z leads back to x as x leads to z.
module _ (next back : Id → List Id) (turned : (y z : Id) → Contains (next y) z → Contains (back z) y) where
  pub reaches_back : (x z : Id) → Reaches next x z → Reaches back z x
  reaches_back x z (between, leads) = by x between leads
    where
      by : (x : Id) (between : List Id) → Leads next x between z → Reaches back z x
      by x [] named = reaches_named back z x (turned x z named)
      by x (y ∷ ys) leads = reaches_last back z y x (by y ys leads.1) (turned x y leads.0)
