-- Who takes effect of what an APPLY or ACCEPT keeps, and what is applied and supplied after it.
use Rattle.std.proofs.Common.{◌≡◌, ◌⊎◌, ◌∙◌, true, List, [], ◌∷◌, Some, Contains, IsTrue}
use Rattle.std.proofs.Common.{is_some, map, inl, inr, refl, sym, ap, subst}
use Rattle.std.specs.Prelude.{◌++◌, IsSome}
use Rattle.std.proofs.lemmas.List.Elements.{Contains-append_left, Contains-append_right}
use Rattle.terms.proofs.ListMembers.{here_or, none_in, here, there}
use Rattle.terms.specs.Types.{Text, Id, Zone}
use Rattle.terms.specs.Lookups.{at_most_one, is_received, is_function, is_applied, is_supplied}
use Rattle.terms.specs.Choice.{fmid_of, pre_of, sup_of}
use Rattle.terms.specs.Over.{names, Supersedes}
use Rattle.terms.specs.Tests.{Setting}
use Rattle.terms.specs.Install.{Installation, TakesEffect, cleared, HasInstalled}
use Rattle.terms.proofs.Ids.{in_or_not}
use Rattle.terms.proofs.Leads.{reaches_through}
use Rattle.terms.proofs.Walks.{reaches_or_not}
use Rattle.change.proofs.ChosenVers.{names_received, never_itself, fmid_function, function_first}
use Rattle.machine_laws.proofs.Supplied.{supplied_or, supplied_applied, supplied_by}
use Rattle.machine_laws.proofs.Given.{Keeps, installing, kept_candidate, candidate_ver}
use Rattle.machine_laws.proofs.AlikeSysmods.{chosen_received}
use Rattle.terms.proofs.Applied.{is_applied_dated}

module _ {X : Type 0} (Over : X → X → Type 0) (over_or_not : (x y : X) → Over x y ⊎ (¬ Over x y))
    (through : (x y z : X) → Over x y → Over y z → Over x z) (never_itself : (x : X) → ¬ Over x x) where
  -- the item or one over it, such that none is over this one
  abbrev Highest : List X → X → X → Type 0
  Highest xs y z = ((z ≡ y) ⊎ (Contains xs z × Over z y)) × ((x : X) → Contains xs x → ¬ Over x z)

  highest : (xs : List X) (y : X) → (z : X) × Highest xs y z
  highest [] y = (y, (inl refl, λ x is over. none_in x is))
  highest (x ∷ xs) y = let top = highest xs y in by top.0 top.1.0 top.1.1 (over_or_not x top.0)
    where
      up : (z : X) → (z ≡ y) ⊎ (Contains xs z × Over z y) → Over x z → Over x y
      up z (inl same) over = subst (Over x) same over
      up z (inr below) over = through x z y over below.1

      later : (z : X) → (z ≡ y) ⊎ (Contains xs z × Over z y) → (z ≡ y) ⊎ (Contains (x ∷ xs) z × Over z y)
      later z (inl same) = inl same
      later z (inr below) = inr (there x xs z below.0, below.1)

      by : (z : X) → (z ≡ y) ⊎ (Contains xs z × Over z y) → ((w : X) → Contains xs w → ¬ Over w z)
          → Over x z ⊎ (¬ Over x z) → (z : X) × Highest (x ∷ xs) y z
      by z from none (inl over) = (
        x,
        (
          inr (here x xs, up z from over),
          λ w is above. elim (here_or x xs w is) [
            | inl same ↦ never_itself x (subst (λ v. Over v x) (sym same) above)
            | inr among ↦ none w among (through w x z above over)
          ],
        ),
      )
      by z from none (inr under) = (
        z,
        (
          later z from,
          λ w is above. elim (here_or x xs w is) [
            | inl same ↦ under (subst (λ v. Over v z) (sym same) above)
            | inr among ↦ none w among above
          ],
        ),
      )

module _ (s : Setting) (survivors kept : List Id) (k : Keeps s survivors kept) where
  -- what supersedes anything is received
  sup_named : (x z : Id) → Contains (sup_of s.choice x) z → Contains (names s.choice x) z
  sup_named x z there =
      Contains-append_left (pre_of s.choice x ++ sup_of s.choice x) (at_most_one (fmid_of s.choice x)) z
      (Contains-append_right (pre_of s.choice x) (sup_of s.choice x) z there)

  pub not_itself : (x : Id) → ¬ Supersedes s.choice x x
  not_itself = never_itself s.global s.zone.srel s.choice k.vers k.global.no_loop

  pub supersedes_or_not : (x z : Id) → Supersedes s.choice x z ⊎ (¬ Supersedes s.choice x z)
  supersedes_or_not = reaches_or_not (sup_of s.choice) (map (λ s. s.id) s.global.sysmods)
      (λ x z named. names_received s.global s.zone.srel s.choice k.vers x z (sup_named x z named)) not_itself

  -- what is kept is received
  pub kept_received : (x : Id) → Contains kept x → IsTrue (is_received s.global x)
  kept_received x is = chosen_received s.global s.zone s.cands x (subst (λ c. IsSome (c x)) k.chosen
      (candidate_ver s survivors kept k x (kept_candidate s survivors kept k x is)))

  module _ (bypassed : List (Id × Id)) (date : Text) where
    abbrev i : Installation
    i = installing s kept bypassed date

    -- A received function takes effect where it is kept, since nothing supersedes it.
    pub function_effect : (f : Id) → Contains kept f → IsTrue (is_function s.global f) → TakesEffect i f
    function_effect f is function = record {
      kept = is;
      first = λ y there other. function_first s.global s.zone.srel s.choice k.vers k.global.roles f function y;
    }

    -- what names a kept one as FMID says that it is a function
    pub fmid_effect : (x f : Id) → fmid_of s.choice x ≡ Some f → Contains kept f → TakesEffect i f
    fmid_effect x f at is = function_effect f is
        (fmid_function s.global s.zone.srel s.choice k.vers k.global.roles x f at (kept_received f is))

    -- What is kept takes effect, or something does that supersedes it.
    pub effect_over : (y : Id) → Contains kept y
        → (z : Id) × TakesEffect i z × ((z ≡ y) ⊎ Supersedes s.choice z y)
    effect_over y is =
        let top = highest (Supersedes s.choice) supersedes_or_not (reaches_through (sup_of s.choice)) not_itself
        kept y in (
          top.0,
          record {
            kept = elim top.1.0 [
              | inl same ↦ subst (Contains kept) (sym same) is
              | inr over ↦ over.0
            ];
            first = λ w there other. top.1.1 w there;
          },
          elim top.1.0 [
            | inl same ↦ inl same
            | inr over ↦ inr over.1
          ],
        )

    pub effect_or_not : (x : Id) → TakesEffect i x ⊎ (¬ TakesEffect i x)
    effect_or_not x = elim (in_or_not kept x) [
      | inl is ↦ by (effect_over x is)
      | inr out ↦ inr (λ effect. out effect.kept)
    ]
      where
        by : (z : Id) × TakesEffect i z × ((z ≡ x) ⊎ Supersedes s.choice z x)
            → TakesEffect i x ⊎ (¬ TakesEffect i x)
        by (z, effect, inl same) = inl (subst (TakesEffect i) same effect)
        by (z, effect, inr over) = inr (λ own. own.first z effect.kept
            (λ same. not_itself x (subst (λ v. Supersedes s.choice v x) same over)) over)

    module _ (new : Zone) (installed : HasInstalled i new) where
      pub effect_applied : (x : Id) → TakesEffect i x → is_applied new x ≡ true
      effect_applied x effect = is_applied_dated new x ∙ ap is_some (installed.applied x effect)

      -- other ids are applied as they are without what is deleted
      pub other_applied : (x : Id) → (¬ TakesEffect i x) → is_applied new x ≡ is_applied (cleared i) x
      other_applied x out = is_applied_dated new x ∙ ap is_some (installed.not_applied x out)
          ∙ sym (is_applied_dated (cleared i) x)

      -- What is applied takes effect, or was applied and is not deleted.
      pub applied_either : (x : Id) → is_applied new x ≡ true → TakesEffect i x ⊎ (is_applied (cleared i) x ≡ true)
      applied_either x on = elim (effect_or_not x) [
        | inl effect ↦ inl effect
        | inr out ↦ inr (sym (other_applied x out) ∙ on)
      ]

      pub applied_stays : (x : Id) → is_applied (cleared i) x ≡ true → is_applied new x ≡ true
      applied_stays x on = elim (effect_or_not x) [
        | inl effect ↦ effect_applied x effect
        | inr out ↦ other_applied x out ∙ on
      ]

      pub supplied_stays : (z : Id) → is_supplied (cleared i) z ≡ true → is_supplied new z ≡ true
      supplied_stays z is = elim (supplied_or (cleared i) z is) [
        | inl on ↦ supplied_applied new z (applied_stays z on)
        | inr by ↦ supplied_by new z by.0 ((installed.supby z by.0).1 (inl by.1))
      ]

      -- What a kept SYSMOD is or supersedes is supplied.
      pub served : (y z : Id) → Contains kept y → (y ≡ z) ⊎ Supersedes s.choice y z → is_supplied new z ≡ true
      served y z is serves = let top = effect_over y is in by top.0 top.1 top.2 serves
        where
          over : (w : Id) → TakesEffect i w → Supersedes s.choice w z → is_supplied new z ≡ true
          over w effect supersedes = supplied_by new z w ((installed.supby z w).1 (inr (effect, supersedes)))

          by : (w : Id) → TakesEffect i w → (w ≡ y) ⊎ Supersedes s.choice w y → (y ≡ z) ⊎ Supersedes s.choice y z
              → is_supplied new z ≡ true
          by w effect (inl same) (inl is) =
              supplied_applied new z (effect_applied z (subst (TakesEffect i) (same ∙ is) effect))
          by w effect (inl same) (inr more) = over w effect (subst (λ v. Supersedes s.choice v z) (sym same) more)
          by w effect (inr up) (inl is) = over w effect (subst (Supersedes s.choice w) is up)
          by w effect (inr up) (inr more) = over w effect (reaches_through (sup_of s.choice) w y z up more)
