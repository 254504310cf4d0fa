-- The chain of a SYSMOD is the SYSMOD and the chain of its FMID, as there is no loop and what names anything is
-- received.
use Rattle.std.proofs.Common.{◌≡◌, ◌≢◌, ◌≤◌, ◌<◌, ◌+◌, ◌∙◌, ℕ, zero, suc, Bool, true, false, List, [], ◌∷◌, ◌++◌}
use Rattle.std.proofs.Common.{length, map, get_or, Option, None, Some, Contains, inl, inr, refl, sym, ap, subst, arith}
use Rattle.std.specs.Prelude.{◌||◌, if◌then◌else◌, unwrap_or}
use Rattle.std.proofs.lemmas.Bool.{or_right}
use Rattle.std.proofs.lemmas.List.{length-map}
use Rattle.std.proofs.lemmas.List.Elements.{Contains-get_or, Contains-append_right}
use Rattle.std.proofs.lemmas.List.Kept.{AllPairs-cons}
use Rattle.terms.proofs.Apart.{AreApart, apart_le}
use Rattle.terms.proofs.ListMembers.{here, here_or, none_in}
use Rattle.terms.specs.Types.{Id, Global}
use Rattle.terms.specs.Lookups.{at_most_one, is_in, meets, is_function}
use Rattle.terms.specs.Choice.{Choice, fmid_of, pre_of, sup_of}
use Rattle.terms.specs.Over.{Reaches, names, chain_from, chain, owner}
use Rattle.terms.specs.Deleted.{is_deleted}
use Rattle.terms.proofs.Leads.{reaches_named, reaches_first}

-- an FMID is named
pub fmid_named : (c : Choice) (x f : Id) → fmid_of c x ≡ Some f → Contains (names c x) f
fmid_named c x f at =
    Contains-append_right (pre_of c x ++ sup_of c x) (at_most_one (fmid_of c x)) f
    (subst (λ o. Contains (at_most_one o) f) (sym at) (here f []))

module _ (c : Choice) where
  -- A walk that ends in time is that of any longer one.
  chain_ends : (n : ℕ) (o : Option Id) → length (chain_from (suc n) c o) ≤ n → chain_from (suc n) c o ≡ chain_from n c o
  chain_ends zero None short = refl
  chain_ends zero (Some x) short = absurd (omega (arith, short))
  chain_ends (suc n) None short = refl
  chain_ends (suc n) (Some x) short =
      let rest : length (chain_from (suc n) c (fmid_of c x)) ≤ n = omega (arith, short) in
      ap (λ ys. x ∷ ys) (chain_ends n (fmid_of c x) rest)

  chain_bound : (n : ℕ) (o : Option Id) → length (chain_from n c o) ≤ n
  chain_bound zero o = omega arith
  chain_bound (suc n) None = omega arith
  chain_bound (suc n) (Some x) = omega (arith, chain_bound n (fmid_of c x))

  -- In a walk that does not end in time each id but the last names the next.
  chain_front : (n : ℕ) (o : Option Id) → length (chain_from (suc n) c o) ≡ suc n → length (chain_from n c o) ≡ n
  chain_front zero o full = refl
  chain_front (suc n) None full = absurd (omega (arith, full))
  chain_front (suc n) (Some x) full =
      let rest : length (chain_from (suc n) c (fmid_of c x)) ≡ suc n = omega (arith, full) in
      omega (arith, chain_front n (fmid_of c x) rest)

  chain_names : (n : ℕ) (o : Option Id) (y : Id) → length (chain_from (suc n) c o) ≡ suc n
      → Contains (chain_from n c o) y → (f : Id) × (fmid_of c y ≡ Some f)
  chain_names zero o y full within = absurd (none_in y within)
  chain_names (suc n) None y full within = absurd (none_in y within)
  chain_names (suc n) (Some x) y full within =
      elim (here_or x (chain_from n c (fmid_of c x)) y within) [
        | inl same ↦ by (fmid_of c x) (ap (fmid_of c) (sym same)) rest
        | inr later ↦ chain_names n (fmid_of c x) y rest later
      ]
    where
      rest : length (chain_from (suc n) c (fmid_of c x)) ≡ suc n
      rest = omega (arith, full)

      by : (o : Option Id) → fmid_of c y ≡ o → length (chain_from (suc n) c o) ≡ suc n
          → (f : Id) × (fmid_of c y ≡ Some f)
      by None at long = absurd (omega (arith, long))
      by (Some f) at long = (f, at)

  -- each id behind the first is reached by FMID
  chain_reached : (n : ℕ) (x y : Id) → Contains (chain_from n c (fmid_of c x)) y → Reaches (names c) x y
  chain_reached zero x y within = absurd (none_in y within)
  chain_reached (suc n) x y within = by (λ f. chain_reached n f y) (fmid_of c x) refl within
    where
      by : ((f : Id) → Contains (chain_from n c (fmid_of c f)) y → Reaches (names c) f y) → (o : Option Id)
          → fmid_of c x ≡ o → Contains (chain_from (suc n) c o) y → Reaches (names c) x y
      by again None at none = absurd (none_in y none)
      by again (Some f) at within =
          let named = fmid_named c x f at in
          elim (here_or f (chain_from n c (fmid_of c f)) y within) [
            | inl same ↦ reaches_named (names c) x y (subst (Contains (names c x)) same named)
            | inr later ↦ reaches_first (names c) x f y named (again f later)
          ]

  -- There is no loop, and what names anything is among the ids.
  module _ (ids : List Id) (named : (x y : Id) → Contains (names c x) y → Contains ids x)
      (no_loop : (x : Id) → ¬ Reaches (names c) x x) where
    chain_apart : (n : ℕ) (o : Option Id) → AreApart (chain_from n c o)
    chain_apart zero o = λ i j d before below same. omega (arith, below)
    chain_apart (suc n) None = λ i j d before below same. omega (arith, below)
    chain_apart (suc n) (Some x) =
        AllPairs-cons (λ a b. a ≢ b) x (chain_from n c (fmid_of c x)) others (chain_apart n (fmid_of c x))
      where
        others : (k : ℕ) (d : Id) → k < length (chain_from n c (fmid_of c x))
            → x ≢ get_or (chain_from n c (fmid_of c x)) k d
        others k d below same =
            let at = chain_reached n x (get_or (chain_from n c (fmid_of c x)) k d)
            (Contains-get_or (chain_from n c (fmid_of c x)) k d below) in
            no_loop x (subst (Reaches (names c) x) (sym same) at)

    chain_full : (n : ℕ) (o : Option Id) → length (chain_from (suc n) c o) ≡ suc n → n ≤ length ids
    chain_full n o full =
        let within = apart_le (chain_from n c o) ids (chain_apart n o)
        (λ y at. let next = chain_names n o y full at in named y next.0 (fmid_named c y next.0 next.1)) in
        omega (arith, within, chain_front n o full)

    chain_short : (x : Id) → chain_from (suc (length ids)) c (fmid_of c x) ≡ chain_from (length ids) c (fmid_of c x)
    chain_short x = chain_ends (length ids) (fmid_of c x) short
      where
        short : length (chain_from (suc (length ids)) c (fmid_of c x)) ≤ length ids
        short =
            let n = length ids in
            let bound = chain_bound (suc (suc n)) (Some x) in
            let not_full : length (chain_from (suc (suc n)) c (Some x)) ≢ suc (suc n) =
            λ full. omega (arith, chain_full (suc n) (Some x) full) in
            omega (arith, bound, not_full)

-- The chain of a SYSMOD has the chain of its FMID, and that of its owner.
module _ (g : Global) (c : Choice)
    (named : (x y : Id) → Contains (names c x) y → Contains (map (λ s. s.id) g.sysmods) x)
    (no_loop : (x : Id) → ¬ Reaches (names c) x x) where
  pub chain_of : (x : Id) → chain g c x ≡ x ∷ chain_from (length g.sysmods + 1) c (fmid_of c x)
  chain_of x =
      let n = length (map (λ s. s.id) g.sysmods) in
      let size : length g.sysmods + 1 ≡ suc n = omega (arith, length-map g.sysmods (λ s. s.id)) in
      ap (λ m. chain_from m c (Some x)) size
      ∙ ap (λ ys. x ∷ ys) (sym (chain_short c (map (λ s. s.id) g.sysmods) named no_loop x))
      ∙ ap (λ m. x ∷ chain_from m c (fmid_of c x)) (sym size)

  pub deleted_by_owner : (dels : List Id) (x : Id) → is_deleted g c dels (owner g c x) ≡ true
      → is_deleted g c dels x ≡ true
  deleted_by_owner dels x deleted = by (is_function g x) deleted
    where
      through : (o : Option Id) → fmid_of c x ≡ o → is_deleted g c dels (unwrap_or o x) ≡ true
          → is_deleted g c dels x ≡ true
      through None at is = is
      through (Some f) at is =
          let own : is_deleted g c dels x ≡ (is_in dels x || is_deleted g c dels f) =
          ap (λ ys. meets ys dels) (chain_of x ∙ ap (λ o. x ∷ chain_from (length g.sysmods + 1) c o) at) in
          own ∙ or_right (is_in dels x) (is_deleted g c dels f) is

      by : (b : Bool) → is_deleted g c dels (if b then x else unwrap_or (fmid_of c x) x) ≡ true
          → is_deleted g c dels x ≡ true
      by true is = is
      by false is = through (fmid_of c x) refl is
